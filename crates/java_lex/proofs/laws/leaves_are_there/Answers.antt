use Rattle.java_lex.proofs.Existing.{leaves-exist}
use Rattle.java_lex.proofs.laws.leaves_are_there.Goals as goal

pub returns : goal.returns
returns c = leaves-exist
