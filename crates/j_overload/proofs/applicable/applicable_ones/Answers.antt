use Rattle.std.proofs.Common.{◌∙◌, sym, length, take, ℕ, []}
use Rattle.std.specs.List.{enumerate_from}
use Rattle.dialogue.specs.ToldLaws.{told_done}
use Rattle.jtypes.specs.declared.signatures.MethodSig.{MethodSig}
use Rattle.j_overload.specs.Picked.{candidates_at}
use Rattle.j_overload.specs.Rules.{applicable, applicable_ones}
use Rattle.j_overload.proofs.Applying.{applicable_takes}
use Rattle.j_overload.proofs.Picks.{candidates_at-none, candidates_at-push, enumerate_more, enumerate_all, all_push, all_none}
use Rattle.j_overload.proofs.Testing.{told_kept, told_left}
use Rattle.j_overload.proofs.TypeLists.{at_place}
use Rattle.j_overload.proofs.applicable.applicable_ones.Goals as goal
use Rattle.j_overload.proofs.applicable.applicable_ones.Goals.{then-branch+in_ok-push, else-branch}

pub loop-place-init : goal.loop-place-init
loop-place-init g c = rw c.new-places.ensures record {
  told = rw (candidates_at-none c.args.candidates.now) (told_done _ c.args.asks.now []);
  takes = all_none c.args.candidates.now c.args.phase (length c.args.args.now);
}

pub loop-place-preserved : goal.loop-place-preserved
loop-place-preserved g c =
    let w = g.C.Classes.world c.args.c.now in
    let cs = c.args.candidates.now in
    let args = c.args.args.now in
    let i = c.loop-place.place in
    let m = c.index-candidates-place.result in
    let there = at_place cs i m c.loop-place-test.true c.index-candidates-place.is in
    let more = enumerate_more cs i m there in
    let r = c.in_ok-is_applicable.field-0 in
    elim c.if-branch.branch [
      | then-branch+in_ok-push d ↦ rw (d.places-is, d.in_ok-push.ensures.ok) record {
        told = rw (more, candidates_at-push cs c.loop-place.places i m there) (told_kept {A = ℕ × MethodSig} (λ c'. applicable c.args.phase args c'.1) (take i (enumerate_from 0 cs)) (i, m) w c.args.asks.now c.loop-place.asks c.is_applicable.new.asks (candidates_at cs c.loop-place.places) r d.if-branch.true c.loop-place.invariant.told c.in_ok-is_applicable.ensures);
        takes = all_push cs c.args.phase (length args) c.loop-place.places i c.loop-place.invariant.takes (m, there, applicable_takes c.args.phase args m w (sym c.in_ok-is_applicable.ensures.gives ∙ d.if-branch.true));
      }
      | else-branch d ↦ rw d.places-is record {
        told = rw more (told_left {A = ℕ × MethodSig} (λ c'. applicable c.args.phase args c'.1) (take i (enumerate_from 0 cs)) (i, m) w c.args.asks.now c.loop-place.asks c.is_applicable.new.asks (candidates_at cs c.loop-place.places) r d.if-branch.false c.loop-place.invariant.told c.in_ok-is_applicable.ensures);
        takes = c.loop-place.invariant.takes;
      }
    ]

pub returns-clause-told : goal.returns-clause-told
unfolding applicable_ones
returns-clause-told g c = rw (enumerate_all c.args.candidates.now c.loop-place.place c.loop-place-test.false) at c.loop-place.invariant.told
