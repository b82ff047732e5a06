use Rattle.std.proofs.Common.{arith, sym}
use Rattle.journal_text.proofs.Numbering.{digits_first, digits_zero}
use Rattle.journal_text.proofs.parts.digits.Goals as goal

pub returns-then-bytes-at-eq48-clause-some : goal.returns-then-bytes-at-eq48-clause-some
returns-then-bytes-at-eq48-clause-some c = digits_zero _ _ (omega arith) c.if-bytes-at-eq48.true

pub more_digits-requires-clause-first : goal.more_digits-requires-clause-first
more_digits-requires-clause-first c = digits_first _ _ (omega arith) (sym c.if-is_digit.ensures) c.if-bytes-at-eq48.false
