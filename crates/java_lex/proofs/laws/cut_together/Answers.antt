use Rattle.java_lex.proofs.Joining.{cut-together}
use Rattle.java_lex.proofs.laws.cut_together.Goals as goal

pub returns : goal.returns
returns c = cut-together
