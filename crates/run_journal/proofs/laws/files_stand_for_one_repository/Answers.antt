use Rattle.run_journal.proofs.Repositories.{one_repository}
use Rattle.run_journal.proofs.laws.files_stand_for_one_repository.Goals as goal

pub returns : goal.returns
returns c = one_repository c.a_batch_has_one_spelling.ensures
