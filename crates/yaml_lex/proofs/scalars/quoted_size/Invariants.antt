use Rattle.std.proofs.Common.{length, ◌-◌}
use Rattle.yaml_lex.proofs.Quoted.{IsSoFar}
use Rattle.yaml_lex.proofs.scalars.quoted_size.Given as goal

abbrev pub invariant-loop-at : goal.invariant-loop-at
invariant-loop-at l = IsSoFar l.quote l.text l.at

abbrev pub decreases-loop-at : goal.decreases-loop-at
decreases-loop-at l = length l.text - l.at
