use Rattle.java_lex.proofs.MarkLaws.{marks-one}
use Rattle.java_lex.proofs.laws.marks_are_one.Goals as goal

pub returns : goal.returns
returns c = marks-one
