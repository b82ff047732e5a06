use Rattle.java_lex.proofs.Best.{IsBest}
use Rattle.java_lex.proofs.automaton.longest.Given as goal

abbrev pub invariant-loop-at : goal.invariant-loop-at
invariant-loop-at l = IsBest l.start l.text l.at l.state l.class l.size
