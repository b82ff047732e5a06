use Rattle.yaml_lex.proofs.Distinct.{distinct}
use Rattle.yaml_lex.proofs.laws.classes_differ.Goals as goal

pub returns : goal.returns
returns c = distinct
