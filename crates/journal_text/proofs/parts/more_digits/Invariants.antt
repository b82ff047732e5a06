use Rattle.journal_text.specs.Parts.{Digits}
use Rattle.journal_text.proofs.parts.more_digits.Given as goal

abbrev pub invariant-loop-end : goal.invariant-loop-end
invariant-loop-end l = Digits l.bytes l.at l.end l.value
