use Rattle.std.proofs.Common.{◌≡◌, ◌∙◌, sym, ap, subst, refl, [], ◌∷◌, false}
use Rattle.std.specs.Option.{option_copied}
use Rattle.j_names.specs.Walk.{sought, walked, from_start}
use Rattle.j_names.proofs.Visits.{visit_stays, visit_absent, visit_ends, visit_goes, walk_told, or_false}
use Rattle.jtypes.proofs.Equality.{or_left}
use Rattle.j_names.proofs.walk.walk.Goals as goal

pub returns-then-is_over : goal.returns-then-is_over
returns-then-is_over g c =
    let what = sought g.S.Seek.over (g.S.Seek.visited c.args.seek.now) in
    let w = g.C.Classes.world c.args.c.now in
    walk_told what w c.args.found.now c.args.start.now c.args.asks.now c.args.asks.now (walked c.args.found.now [])
    (visit_stays what (from_start what) (walked c.args.found.now []) c.args.start.now w c.args.asks.now
    (or_left _ false (sym c.is_over.ensures ∙ c.if-is_over.true)))

pub returns-in_default : goal.returns-in_default
returns-in_default g c =
    let what = sought g.S.Seek.over (g.S.Seek.visited c.args.seek.now) in
    let w = g.C.Classes.world c.args.c.now in
    walk_told what w c.args.found.now c.args.start.now c.args.asks.now c.ask_class.new.asks
    (walked c.args.found.now (c.args.start.now ∷ []))
    (visit_absent what (from_start what) (walked c.args.found.now []) c.args.start.now w c.args.asks.now
    c.ask_class.new.asks
    (or_false _ _ (sym c.is_over.ensures ∙ c.if-is_over.false) refl)
    (sym c.in_ok-header.ensures.value ∙ ap option_copied c.in_default.is)
    c.in_ok-header.ensures.asks)

pub returns-then-is_over-2 : goal.returns-then-is_over-2
returns-then-is_over-2 g c =
    let what = sought g.S.Seek.over (g.S.Seek.visited c.args.seek.now) in
    let w = g.C.Classes.world c.args.c.now in
    walk_told what w c.args.found.now c.args.start.now c.args.asks.now c.visit.new.asks (walked c.visit.new.found [])
    (visit_ends what (from_start what) (walked c.args.found.now []) c.args.start.now w c.in-Some.header.now
    c.visit.new.found c.args.asks.now c.ask_class.new.asks c.visit.new.asks
    (or_false _ _ (sym c.is_over.ensures ∙ c.if-is_over.false) refl)
    (sym c.in_ok-header.ensures.value ∙ ap option_copied c.in-Some.is)
    c.in_ok-header.ensures.asks
    c.in_ok-visit.ensures
    (sym c.is_over-2.ensures ∙ c.if-is_over-2.true))

pub returns : goal.returns
returns g c =
    let what = sought g.S.Seek.over (g.S.Seek.visited c.args.seek.now) in
    let w = g.C.Classes.world c.args.c.now in
    let start = c.args.start.now in
    let put : c.put.new.self ≡ start ∷ [] = subst (λ n. c.put.new.self ≡ n ∷ []) c.in_ok-copy.ensures
    ((rw c.new-seen.ensures at c.in_ok-put.ensures.ok) (λ h. h)) in
    walk_told what w c.args.found.now start c.args.asks.now c.walk_behind.new.asks
    (walked c.walk_behind.new.found c.walk_behind.new.seen)
    (visit_goes what (from_start what) (walked c.args.found.now []) start w c.in-Some.header.now c.visit.new.found
    (walked c.walk_behind.new.found c.walk_behind.new.seen) c.args.asks.now c.ask_class.new.asks
    c.visit.new.asks c.walk_behind.new.asks
    (or_false _ _ (sym c.is_over.ensures ∙ c.if-is_over.false) refl)
    (sym c.in_ok-header.ensures.value ∙ ap option_copied c.in-Some.is)
    c.in_ok-header.ensures.asks
    c.in_ok-visit.ensures
    (sym c.is_over-2.ensures ∙ c.if-is_over-2.false)
    (rw put at c.in_ok-walk_behind.ensures))
