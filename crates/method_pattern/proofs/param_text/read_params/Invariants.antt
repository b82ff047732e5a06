use Rattle.std.proofs.Common.{◌-◌, length}
use Rattle.method_pattern.proofs.ParamSteps.{ParamsRead}
use Rattle.method_pattern.proofs.param_text.read_params.Given as goal

abbrev pub invariant-loop-written : goal.invariant-loop-written
invariant-loop-written l = ParamsRead l.params.items l.text l.at

abbrev pub decreases-loop-written : goal.decreases-loop-written
decreases-loop-written l = length l.initial.text - l.at
