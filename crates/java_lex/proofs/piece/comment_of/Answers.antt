use Rattle.java_lex.proofs.Pieces.{bad-comment}
use Rattle.java_lex.proofs.piece.comment_of.Goals as goal

pub returns-in-Some : goal.returns-in-Some
returns-in-Some c = bad-comment c.args.text.now c.args.size c.in-Some.at c.requires c.in-Some.ensures
