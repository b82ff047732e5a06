use Rattle.std.proofs.Common.{[], arith}
use Rattle.scheduler.specs.Fates.{settled}
use Rattle.scheduler.proofs.Settling.{settled_end}
use Rattle.scheduler.proofs.settle.settle.Goals as goal

pub returns-clause-settled : goal.returns-clause-settled
returns-clause-settled c = settled_end c.args.files.now c.loop-i.taken.items c.args.files.now c.args.fates.now c.loop-i.i c.loop-i.all.items (settled c.args.files.now [] c.args.files.now c.args.fates.now) (omega arith) c.loop-i.invariant.settled
