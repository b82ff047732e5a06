use Rattle.yaml_lex.proofs.CutLaws.{leaves-of}
use Rattle.yaml_lex.proofs.laws.leaves_are_there.Goals as goal

pub returns : goal.returns
returns c = leaves-of
