use Rattle.run_journal.proofs.Repositories.{called_stands}
use Rattle.run_journal.proofs.laws.called_changes_make_the_repository.Goals as goal

pub returns : goal.returns
returns c files changes = called_stands files changes
