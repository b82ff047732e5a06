use Rattle.std.proofs.Common.{arith}
use Rattle.scheduler.specs.Steps.{moved_from, moved}
use Rattle.scheduler.proofs.Beside.{beside_end}
use Rattle.scheduler.proofs.After.{moved_is_kept}
use Rattle.scheduler.proofs.next.moved.Goals as goal

pub returns-clause-moved : goal.returns-clause-moved
returns-clause-moved c = beside_end moved_from c.args.files.now c.args.fates.now c.loop-i.i c.loop-i.out.items (moved c.args.files.now c.args.fates.now) (omega arith) c.loop-i.invariant

pub returns-clause-kept : goal.returns-clause-kept
returns-clause-kept c =
    moved_is_kept c.args.files.now c.loop-i.out.items c.args.fates.now c.requires.fates
    (beside_end moved_from c.args.files.now c.args.fates.now c.loop-i.i c.loop-i.out.items (moved c.args.files.now c.args.fates.now) (omega arith) c.loop-i.invariant)
