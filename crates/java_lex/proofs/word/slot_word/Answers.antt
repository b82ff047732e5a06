use Rattle.java_lex.proofs.Letters.{count-inside}
use Rattle.java_lex.proofs.word.slot_word.Goals as goal

pub shared_ref_as_front-result : goal.shared_ref_as_front-result
shared_ref_as_front-result c = count-inside c.args.slot c.requires
