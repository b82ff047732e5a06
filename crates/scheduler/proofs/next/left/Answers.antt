use Rattle.std.proofs.Common.{arith}
use Rattle.scheduler.specs.Steps.{left_at, left}
use Rattle.scheduler.proofs.Beside.{beside_end}
use Rattle.scheduler.proofs.After.{left_is_kept}
use Rattle.scheduler.proofs.next.left.Goals as goal

pub returns-clause-left : goal.returns-clause-left
returns-clause-left c = beside_end left_at c.args.files.now c.args.fates.now c.loop-i.i c.loop-i.out.items (left c.args.files.now c.args.fates.now) (omega arith) c.loop-i.invariant

pub returns-clause-kept : goal.returns-clause-kept
returns-clause-kept c =
    left_is_kept c.args.files.now c.loop-i.out.items c.args.fates.now c.requires.kept c.requires.fates
    (beside_end left_at c.args.files.now c.args.fates.now c.loop-i.i c.loop-i.out.items (left c.args.files.now c.args.fates.now) (omega arith) c.loop-i.invariant)
