use Rattle.std.proofs.Common.{arith}
use Rattle.scheduler.specs.Fates.{fates_from}
use Rattle.scheduler.proofs.Beside.{fates_end}
use Rattle.scheduler.proofs.stepping.fates.Goals as goal

pub returns-clause-fates : goal.returns-clause-fates
returns-clause-fates g c read are = fates_end read c.args.plan.now c.args.leaf.now c.args.value.now.texts c.args.kept.now c.loop-file.file c.loop-file.all.items (fates_from read c.args.plan.now c.args.leaf.now c.args.value.now.texts c.args.kept.now 0 c.args.kept.now) (omega arith) (c.loop-file.invariant.fates read are)
