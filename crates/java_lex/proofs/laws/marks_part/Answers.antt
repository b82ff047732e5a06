use Rattle.java_lex.proofs.MarkLaws.{marks-part}
use Rattle.java_lex.proofs.laws.marks_part.Goals as goal

pub returns : goal.returns
returns c = marks-part
