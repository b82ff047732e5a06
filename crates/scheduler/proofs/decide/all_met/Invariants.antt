use Rattle.std.proofs.Common.{◌≡◌, [], drop}
use Rattle.scheduler.specs.Holds.{met_from}
use Rattle.scheduler.proofs.decide.all_met.Given as goal

abbrev pub invariant-loop-condition : goal.invariant-loop-condition
invariant-loop-condition l = met_from l.kept l.file l.met.items (drop l.condition-index l.conditions) ≡ met_from l.kept l.file [] l.conditions
