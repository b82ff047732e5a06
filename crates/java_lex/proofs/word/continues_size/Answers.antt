use Rattle.java_lex.proofs.Letters.{goes-table}
use Rattle.java_lex.proofs.word.continues_size.Goals as goal

pub returns : goal.returns
returns c = goes-table c.args.b c.requires
