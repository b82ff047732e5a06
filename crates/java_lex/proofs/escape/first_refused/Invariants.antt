use Rattle.std.proofs.Common.{◌-◌, length}
use Rattle.java_lex.specs.Scanning.{escape_of}
use Rattle.java_lex.proofs.Escaping.{IsClear}
use Rattle.java_lex.proofs.escape.first_refused.Given as goal

abbrev pub invariant-loop-at : goal.invariant-loop-at
invariant-loop-at l = IsClear (escape_of l.escape) l.text l.at

abbrev pub decreases-loop-at : goal.decreases-loop-at
decreases-loop-at l = length l.initial.text - l.at
