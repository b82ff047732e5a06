use Rattle.std.proofs.Common.{length, rules, ◌<◌, get_or, take, ℕ, []}
use Rattle.dialogue.specs.ToldLaws.{told_done}
use Rattle.jtypes.specs.declared.signatures.MethodSig.{MethodSig}
use Rattle.j_overload.specs.TestEach.{all_of}
use Rattle.j_overload.specs.Picked.{candidates_at}
use Rattle.j_overload.specs.Rules.{more_specific, most_specific_ones}
use Rattle.j_overload.proofs.Picks.{candidates_at-none, picked_more, candidates_at-push, taken_at, taken_within, taken_takes, all_push, all_none, take_all}
use Rattle.j_overload.proofs.Testing.{told_kept, told_left}
use Rattle.j_overload.proofs.TypeLists.{at_place}
use Rattle.j_overload.proofs.specific.most_specific_ones.Goals as goal
use Rattle.j_overload.proofs.specific.most_specific_ones.Goals.{then-branch+in_ok-push, else-branch}

pub bounds-candidates-place : goal.bounds-candidates-place
bounds-candidates-place g c = taken_within _ _ _ _ (taken_at c.args.candidates.now c.args.phase c.args.count c.args.places.now c.loop-place.place-index c.requires c.loop-place-test.true)

pub offset_bounds-candidates-place : goal.offset_bounds-candidates-place
offset_bounds-candidates-place g c =
    let lt : get_or c.args.places.now c.loop-place.place-index 0 < length c.args.candidates.now = taken_within _ _ _ _ (taken_at c.args.candidates.now c.args.phase c.args.count c.args.places.now c.loop-place.place-index c.requires c.loop-place-test.true) in
    search rules

pub is_above_all-requires-clause-first : goal.is_above_all-requires-clause-first
is_above_all-requires-clause-first g c =
    let cs = c.args.candidates.now in
    let is = c.args.places.now in
    let k = c.loop-place.place-index in
    let taken = taken_at cs c.args.phase c.args.count is k c.requires c.loop-place-test.true in
    taken_takes cs c.args.phase c.args.count (get_or is k 0) c.index-candidates-place.result taken (at_place cs (get_or is k 0) c.index-candidates-place.result (taken_within cs c.args.phase c.args.count (get_or is k 0) taken) c.index-candidates-place.is)

pub loop-place-init : goal.loop-place-init
loop-place-init g c = rw (c.new-best.ensures, candidates_at-none c.args.candidates.now) record {
  told = told_done _ c.args.asks.now [];
  takes = all_none c.args.candidates.now c.args.phase c.args.count;
}

pub loop-place-preserved : goal.loop-place-preserved
loop-place-preserved g c =
    let w = g.C.Classes.world c.args.c.now in
    let cs = c.args.candidates.now in
    let is = c.args.places.now in
    let k = c.loop-place.place-index in
    let i = get_or is k 0 in
    let m = c.index-candidates-place.result in
    let taken = taken_at cs c.args.phase c.args.count is k c.requires c.loop-place-test.true in
    let there = at_place cs i m (taken_within cs c.args.phase c.args.count i taken) c.index-candidates-place.is in
    let more = picked_more cs is k m c.loop-place-test.true there in
    let r = c.in_ok-is_above_all.field-0 in
    let ones = candidates_at cs is in
    elim c.if-branch.branch [
      | then-branch+in_ok-push d ↦ rw (d.best-is, d.in_ok-push.ensures.ok) record {
        told = rw (more, candidates_at-push cs c.loop-place.best i m there) (told_kept {A = ℕ × MethodSig} (λ a. all_of (λ d. more_specific c.args.phase c.args.count a.1 d.1) ones) (candidates_at cs (take k is)) (i, m) w c.args.asks.now c.loop-place.asks c.is_above_all.new.asks (candidates_at cs c.loop-place.best) r d.if-branch.true c.loop-place.invariant.told c.in_ok-is_above_all.ensures);
        takes = all_push cs c.args.phase c.args.count c.loop-place.best i c.loop-place.invariant.takes taken;
      }
      | else-branch d ↦ rw d.best-is record {
        told = rw more (told_left {A = ℕ × MethodSig} (λ a. all_of (λ d. more_specific c.args.phase c.args.count a.1 d.1) ones) (candidates_at cs (take k is)) (i, m) w c.args.asks.now c.loop-place.asks c.is_above_all.new.asks (candidates_at cs c.loop-place.best) r d.if-branch.false c.loop-place.invariant.told c.in_ok-is_above_all.ensures);
        takes = c.loop-place.invariant.takes;
      }
    ]

pub returns-clause-told : goal.returns-clause-told
unfolding most_specific_ones
returns-clause-told g c = rw (take_all c.args.places.now c.loop-place.place-index c.loop-place-test.false) at c.loop-place.invariant.told
