use Rattle.std.proofs.Common.{◌-◌, length}
use Rattle.yaml_lex.proofs.Lines.{IsSoFar}
use Rattle.yaml_lex.proofs.block.lines_size.Given as goal

abbrev pub invariant-lines : goal.invariant-lines
invariant-lines l = IsSoFar l.least l.text l.at

abbrev pub decreases-lines : goal.decreases-lines
decreases-lines l = length l.text - l.at
