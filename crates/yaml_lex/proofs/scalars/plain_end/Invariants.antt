use Rattle.yaml_lex.proofs.Plain.{IsSoFar}
use Rattle.yaml_lex.proofs.scalars.plain_end.Given as goal

abbrev pub invariant-loop-at : goal.invariant-loop-at
invariant-loop-at l = IsSoFar l.flow l.text l.at l.end
