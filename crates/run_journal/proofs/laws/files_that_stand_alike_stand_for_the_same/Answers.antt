use Rattle.run_journal.proofs.Repositories.{alike_same}
use Rattle.run_journal.proofs.laws.files_that_stand_alike_stand_for_the_same.Goals as goal

pub returns : goal.returns
returns c = alike_same c.a_batch_has_one_spelling.ensures
