use Rattle.std.proofs.Common.{refl, sym}
use Rattle.journal_text.proofs.Whole.{one_spelling}
use Rattle.journal_text.proofs.laws.sealed_batches_read_back.Goals as goal

pub returns-clause-reads : goal.returns-clause-reads
returns-clause-reads c = λ changes batch small. record { batch = batch; whole = refl; size = small }

pub returns-clause-alone : goal.returns-clause-alone
returns-clause-alone c = λ changes other batch reads. sym (one_spelling changes other batch reads.batch reads.whole)
