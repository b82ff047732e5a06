use Rattle.std.proofs.Common.{◌-◌, length}
use Rattle.java_lex.proofs.Wording.{IsGrown}
use Rattle.java_lex.proofs.word.word_size.Given as goal

abbrev pub invariant-loop-size : goal.invariant-loop-size
invariant-loop-size l = IsGrown l.text l.at l.size

abbrev pub decreases-loop-size : goal.decreases-loop-size
decreases-loop-size l = length l.initial.text - l.at
