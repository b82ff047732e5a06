use Rattle.java_lex.proofs.MarkLaws.{marks-anywhere}
use Rattle.java_lex.proofs.laws.marks_anywhere.Goals as goal

pub returns : goal.returns
returns c = marks-anywhere
