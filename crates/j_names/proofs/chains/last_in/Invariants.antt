use Rattle.j_names.specs.Indexed.{IsPassed}
use Rattle.j_names.proofs.chains.last_in.Given as goal

abbrev pub invariant-loop-at : goal.invariant-loop-at
invariant-loop-at l = IsPassed l.number l.end l.links l.at

abbrev pub decreases-loop-at : goal.decreases-loop-at
decreases-loop-at l = l.at
