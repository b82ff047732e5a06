use Rattle.std.proofs.Common.{arith, refl}
use Rattle.java_lex.proofs.Wording.{first-empty, ascii-first}
use Rattle.java_lex.proofs.word.next_size.Goals as goal

pub returns-in-empty : goal.returns-in-empty
returns-in-empty c = first-empty _ _ (omega arith)

pub returns-in-len1-up : goal.returns-in-len1-up
returns-in-len1-up c = ascii-first _ _ _ _ (omega arith) refl c.if-b-lt128.true c.continues_size.ensures
