use Rattle.std.proofs.Common.{[], arith}
use Rattle.scheduler.specs.Holds.{met_from}
use Rattle.scheduler.proofs.Decided.{met_end}
use Rattle.scheduler.proofs.decide.all_met.Goals as goal

pub returns : goal.returns
returns c = met_end c.args.kept.now c.args.file c.args.conditions.now c.loop-condition.condition-index c.loop-condition.met.items (met_from c.args.kept.now c.args.file [] c.args.conditions.now) (omega arith) c.loop-condition.invariant
