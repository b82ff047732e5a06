use Rattle.std.proofs.Common.{◌-◌, length}
use Rattle.method_pattern.proofs.PieceSteps.{TypeRead}
use Rattle.method_pattern.proofs.type_text.read_type.Given as goal

abbrev pub invariant-loop-fault : goal.invariant-loop-fault
invariant-loop-fault l = TypeRead l.of_parameter l.pieces.items l.text l.at

abbrev pub decreases-loop-fault : goal.decreases-loop-fault
decreases-loop-fault l = length l.initial.text - l.at
