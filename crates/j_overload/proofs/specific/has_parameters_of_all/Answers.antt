use Rattle.std.proofs.Common.{◌∙◌, ap, sym, length, rules, ◌<◌, get_or}
use Rattle.std.specs.List.{list_all}
use Rattle.j_overload.specs.Picked.{candidates_at}
use Rattle.j_overload.specs.Rules.{types_eq}
use Rattle.j_overload.proofs.Picks.{within_at, candidates_at-none, drop_all}
use Rattle.j_overload.proofs.TypeLists.{at_place}
use Rattle.j_overload.proofs.Equals.{equal_next, unequal_next, same_test, params_of}
use Rattle.j_overload.proofs.specific.has_parameters_of_all.Goals as goal

pub bounds-candidates-place : goal.bounds-candidates-place
bounds-candidates-place c = within_at c.args.candidates.now c.args.places.now c.loop-place.place-index c.requires c.loop-place-test.true

pub offset_bounds-candidates-place : goal.offset_bounds-candidates-place
offset_bounds-candidates-place c =
    let lt : get_or c.args.places.now c.loop-place.place-index 0 < length c.args.candidates.now = within_at c.args.candidates.now c.args.places.now c.loop-place.place-index c.requires c.loop-place-test.true in
    search rules

pub returns-then-not-are_same_types : goal.returns-then-not-are_same_types
returns-then-not-are_same_types c =
    let cs = c.args.candidates.now in
    let is = c.args.places.now in
    let k = c.loop-place.place-index in
    let n = c.index-candidates-place.result in
    let lt = within_at cs is k c.requires c.loop-place-test.true in
    sym (c.loop-place.invariant ∙ unequal_next cs is k c.args.m.now n c.loop-place-test.true (at_place cs (get_or is k 0) n lt c.index-candidates-place.is) (same_test c.are_same_types.ensures c.as_slice.ensures (c.as_slice-in-loop-place.ensures ∙ ap params_of (sym c.index-candidates-place.is)) c.if-not-are_same_types.true))

pub loop-place-preserved : goal.loop-place-preserved
loop-place-preserved c =
    let cs = c.args.candidates.now in
    let is = c.args.places.now in
    let k = c.loop-place.place-index in
    let n = c.index-candidates-place.result in
    let lt = within_at cs is k c.requires c.loop-place-test.true in
    c.loop-place.invariant ∙ equal_next cs is k c.args.m.now n c.loop-place-test.true (at_place cs (get_or is k 0) n lt c.index-candidates-place.is) (same_test c.are_same_types.ensures c.as_slice.ensures (c.as_slice-in-loop-place.ensures ∙ ap params_of (sym c.index-candidates-place.is)) c.if-not-are_same_types.false)

pub returns : goal.returns
returns c =
    let cs = c.args.candidates.now in
    let is = c.args.places.now in
    sym (c.loop-place.invariant ∙ ap (list_all (λ d. types_eq c.args.m.now.params d.1.params)) (ap (candidates_at cs) (drop_all is c.loop-place.place-index c.loop-place-test.false) ∙ candidates_at-none cs))
