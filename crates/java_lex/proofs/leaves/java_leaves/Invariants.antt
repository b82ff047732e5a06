use Rattle.std.proofs.Common.{◌-◌, length}
use Rattle.java_lex.proofs.Cutting.{IsSoFar}
use Rattle.java_lex.proofs.leaves.java_leaves.Given as goal

abbrev pub invariant-pieces : goal.invariant-pieces
invariant-pieces l = IsSoFar l.bytes l.text l.broken l.leaves.items l.from l.at

abbrev pub decreases-pieces : goal.decreases-pieces
decreases-pieces l = length l.text - l.at
