use Rattle.java_lex.proofs.Alike.{cut-alike}
use Rattle.java_lex.proofs.laws.cut_alike.Goals as goal

pub returns : goal.returns
returns c = cut-alike
