use Rattle.yaml_lex.proofs.CutLaws.{leaves-one}
use Rattle.yaml_lex.proofs.laws.leaves_are_one.Goals as goal

pub returns : goal.returns
returns c = leaves-one
