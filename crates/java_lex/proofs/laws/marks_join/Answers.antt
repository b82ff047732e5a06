use Rattle.java_lex.proofs.MarkLaws.{marks-join}
use Rattle.java_lex.proofs.laws.marks_join.Goals as goal

pub returns : goal.returns
returns c = marks-join
