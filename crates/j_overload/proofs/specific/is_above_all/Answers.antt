use Rattle.std.proofs.Common.{length, rules, true, ◌<◌, get_or, take, ℕ}
use Rattle.dialogue.specs.ToldLaws.{told_done}
use Rattle.jtypes.specs.declared.signatures.MethodSig.{MethodSig}
use Rattle.j_overload.specs.Picked.{candidates_at}
use Rattle.j_overload.specs.Rules.{more_specific}
use Rattle.j_overload.proofs.Picks.{candidates_at-none, picked_more, taken_at, taken_within, taken_takes}
use Rattle.j_overload.proofs.Testing.{told_all_more}
use Rattle.j_overload.proofs.TypeLists.{at_place}
use Rattle.j_overload.proofs.specific.is_above_all.Goals as goal

pub loop-place-init : goal.loop-place-init
loop-place-init g c = rw (candidates_at-none c.args.candidates.now) (told_done _ c.args.asks.now true)

pub bounds-candidates-place : goal.bounds-candidates-place
bounds-candidates-place g c = taken_within _ _ _ _ (taken_at c.args.candidates.now c.args.phase c.args.count c.args.places.now c.loop-place.place-index c.requires.others c.loop-place-test.true)

pub offset_bounds-candidates-place : goal.offset_bounds-candidates-place
offset_bounds-candidates-place g c =
    let lt : get_or c.args.places.now c.loop-place.place-index 0 < length c.args.candidates.now = taken_within _ _ _ _ (taken_at c.args.candidates.now c.args.phase c.args.count c.args.places.now c.loop-place.place-index c.requires.others c.loop-place-test.true) in
    search rules

pub is_more_specific-requires-clause-second : goal.is_more_specific-requires-clause-second
is_more_specific-requires-clause-second g c =
    let cs = c.args.candidates.now in
    let is = c.args.places.now in
    let k = c.loop-place.place-index in
    let taken = taken_at cs c.args.phase c.args.count is k c.requires.others c.loop-place-test.true in
    taken_takes cs c.args.phase c.args.count (get_or is k 0) c.index-candidates-place.result taken (at_place cs (get_or is k 0) c.index-candidates-place.result (taken_within cs c.args.phase c.args.count (get_or is k 0) taken) c.index-candidates-place.is)

pub loop-place-preserved : goal.loop-place-preserved
loop-place-preserved g c =
    let cs = c.args.candidates.now in
    let is = c.args.places.now in
    let k = c.loop-place.place-index in
    let n = c.index-candidates-place.result in
    let taken = taken_at cs c.args.phase c.args.count is k c.requires.others c.loop-place-test.true in
    let there = at_place cs (get_or is k 0) n (taken_within cs c.args.phase c.args.count (get_or is k 0) taken) c.index-candidates-place.is in
    rw (picked_more cs is k n c.loop-place-test.true there) (told_all_more {A = ℕ × MethodSig} (λ d. more_specific c.args.phase c.args.count c.args.m.now d.1) (candidates_at cs (take k is)) (get_or is k 0, n) (g.C.Classes.world c.args.c.now) c.args.asks.now c.loop-place.asks c.is_more_specific.new.asks c.loop-place.above c.in_ok-more.more c.loop-place.invariant c.in_ok-more.ensures)
