use Rattle.java_lex.proofs.MarkLaws.{marks-same}
use Rattle.java_lex.proofs.laws.marks_keep_leaves.Goals as goal

pub returns : goal.returns
returns c = marks-same
