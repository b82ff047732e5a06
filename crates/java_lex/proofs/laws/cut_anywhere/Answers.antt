use Rattle.java_lex.proofs.Moving.{cut-moved}
use Rattle.java_lex.proofs.laws.cut_anywhere.Goals as goal

pub returns : goal.returns
returns c = cut-moved
