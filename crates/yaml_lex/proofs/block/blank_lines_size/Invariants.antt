use Rattle.std.proofs.Common.{◌-◌, length}
use Rattle.yaml_lex.proofs.Blanks.{IsSoFar}
use Rattle.yaml_lex.proofs.block.blank_lines_size.Given as goal

abbrev pub invariant-loop-at : goal.invariant-loop-at
invariant-loop-at l = IsSoFar l.text l.at

abbrev pub decreases-loop-at : goal.decreases-loop-at
decreases-loop-at l = length l.text - l.at
