use Rattle.java_lex.proofs.Letters.{begins-table}
use Rattle.java_lex.proofs.word.begins_size.Goals as goal

pub returns : goal.returns
returns c = begins-table c.args.b c.requires
