use Rattle.std.proofs.Common.{◌≡◌, ◌∙◌, sym, ap, subst, ℕ, List, [], ◌∷◌, ◌++◌, map, cond, true}
use Rattle.std.proofs.lemmas.List.{map-append}
use denote.Bor.{Bor}
use Rattle.indexmap.specs.IndexSet.{contains}
use Rattle.jtypes.specs.World.{name_eq}
use Rattle.declared_types.specs.declared.written.DeclaredType.{DeclaredType}
use Rattle.class_world.proofs.OneMore.{names_kept, names_added}
use Rattle.class_world.proofs.firsts.put_first.Goals as goal

pub returns-then-contains : goal.returns-then-contains
returns-then-contains c ds h =
    names_kept c.args.names.now (map (λ d. d.now) c.args.firsts.now.items) ds c.args.declared.now h
    (sym c.contains.ensures ∙ c.if-contains.true)

pub returns : goal.returns
returns c ds h =
    names_added c.args.names.now (map (λ d. d.now) c.args.firsts.now.items) ds c.args.declared.now h
    (sym c.contains.ensures ∙ c.if-contains.false) c.insert.new.self (map (λ d. d.now) c.push.new.self.items)
    (λ n. c.in_ok-insert.ensures.updates.0 n
    ∙ ap (λ k. cond (name_eq k n) true (contains name_eq c.args.names.now n)) c.in_ok-name.ensures)
    (ap (λ (xs : List (Bor DeclaredType)). map (λ d. d.now) xs) c.in_ok-push.ensures.items
    ∙ map-append (λ (d : Bor DeclaredType). d.now) c.args.firsts.now.items (c.args.declared ∷ []))
