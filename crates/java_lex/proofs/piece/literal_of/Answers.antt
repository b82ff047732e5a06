use Rattle.java_lex.proofs.Pieces.{bad-literal}
use Rattle.java_lex.proofs.piece.literal_of.Goals as goal

pub returns-in-Some : goal.returns-in-Some
returns-in-Some c =
    bad-literal c.args.text.now c.args.class c.args.size c.in-Some.at c.requires.place c.requires.longest c.requires.literal c.in-Some.ensures
