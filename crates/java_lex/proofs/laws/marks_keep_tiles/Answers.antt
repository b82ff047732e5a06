use Rattle.java_lex.proofs.MarkLaws.{marks-tile}
use Rattle.java_lex.proofs.laws.marks_keep_tiles.Goals as goal

pub returns : goal.returns
returns c = marks-tile
