use Rattle.java_lex.proofs.Numbering.{classes-differ}
use Rattle.java_lex.proofs.laws.classes_differ.Goals as goal

pub returns : goal.returns
returns c = classes-differ
