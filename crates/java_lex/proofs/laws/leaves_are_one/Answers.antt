use Rattle.java_lex.proofs.Steps.{leaves-same}
use Rattle.java_lex.proofs.laws.leaves_are_one.Goals as goal

pub returns : goal.returns
returns c = leaves-same
