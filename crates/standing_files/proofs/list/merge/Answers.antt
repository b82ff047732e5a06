use Rattle.std.proofs.Common.{◌≡◌, [], subst, sym, ap, ◌∙◌, arith}
use Rattle.std.proofs.lemmas.List.{nil_from_length}
use Rattle.std.specs.Vec.Iter.{into_iter_items}
use Rattle.rw_host.specs.Files.{IsInOrder}
use Rattle.journal_text.specs.Changes.{changes_of}
use Rattle.standing_files.proofs.Over.{paths_over}
use Rattle.standing_files.proofs.Keys.{all_merged, keys_over, over_in_order}
use Rattle.standing_files.proofs.list.merge.Goals as goal

pub returns-clause-keys : goal.returns-clause-keys
returns-clause-keys c = λ files same.
    let it = c.loop-path.path-iterator in
    let changes = changes_of c.args.entries.now in
    let none : into_iter_items it ≡ [] = nil_from_length (into_iter_items it) (omega (arith, it.rest.ok, c.in-None.ensures.steps.0)) in
    all_merged c.args.paths.items c.loop-path.merged.items (into_iter_items it) _ changes (changes_of c.loop-path.rest.now) c.loop-path.invariant none c.in_ok-push_created.ensures
    ∙ ap (λ paths. paths_over paths changes) same
    ∙ keys_over files changes c.requires.entries

pub returns-clause-in_order : goal.returns-clause-in_order
returns-clause-in_order c =
    let it = c.loop-path.path-iterator in
    let changes = changes_of c.args.entries.now in
    let none : into_iter_items it ≡ [] = nil_from_length (into_iter_items it) (omega (arith, it.rest.ok, c.in-None.ensures.steps.0)) in
    let all : c.push_created.new.out.items ≡ paths_over c.args.paths.items changes = all_merged c.args.paths.items c.loop-path.merged.items (into_iter_items it) _ changes (changes_of c.loop-path.rest.now) c.loop-path.invariant none c.in_ok-push_created.ensures in
    subst IsInOrder (sym all) (over_in_order c.args.paths.items changes c.requires.paths c.requires.entries)
