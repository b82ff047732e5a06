use Rattle.std.proofs.Common.{◌≡◌, ◌∷◌, ap, length, arith}
use Rattle.std.specs.Vec.Iter.{into_iter_items, into_iter_len}
use Rattle.j_repair.specs.Changes.{repaired}
use Rattle.j_repair.proofs.Kept.{none_left, repaired_more, repaired_end}
use Rattle.j_repair.proofs.repairing.files_with.Goals as goal

pub loop-change-preserved : goal.loop-change-preserved
loop-change-preserved g c =
    let xs = into_iter_items c.loop-change.change-iterator in
    let left = into_iter_items c.next.new.self in
    let cut : xs ≡ c.in-Some.change ∷ left = c.in-Some.ensures.steps.0 in
    record {
      repaired = λ read are. repaired_more read xs left c.in-Some.change c.loop-change.out.items c.in_ok-out-2.out.items (repaired read c.args.changes.items c.args.files.now) cut (c.in_ok-out-2.ensures.changed read are) (c.loop-change.invariant.repaired read are);
      kept = c.in_ok-out-2.ensures.kept;
      len = omega (arith, c.in-Some.ensures.steps.1, c.loop-change.invariant.len, ap length cut);
    }

pub returns-clause-repaired : goal.returns-clause-repaired
returns-clause-repaired g c read are =
    repaired_end read (into_iter_items c.loop-change.change-iterator) c.loop-change.out.items (repaired read c.args.changes.items c.args.files.now) (none_left (into_iter_items c.loop-change.change-iterator) (into_iter_len c.loop-change.change-iterator) c.in-None.ensures.steps.0 c.loop-change.invariant.len) (c.loop-change.invariant.repaired read are)
