use Rattle.java_lex.proofs.piece.piece_of.Goals as goal

pub returns-in-47 : goal.returns-in-47
returns-in-47 c = c.comment_of.ensures c.args.broken

pub returns-in-Some : goal.returns-in-Some
returns-in-Some c = c.comment_of-in-Some.ensures c.args.broken
