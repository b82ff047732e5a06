use Rattle.journal_text.proofs.Whole.{one_spelling}
use Rattle.journal_text.proofs.laws.a_batch_has_one_spelling.Goals as goal

pub returns : goal.returns
returns c = one_spelling
