use Rattle.run_journal.proofs.Repositories.{damaged_none}
use Rattle.run_journal.proofs.laws.damaged_files_stand_for_nothing.Goals as goal

pub returns : goal.returns
returns c files repository n = damaged_none files repository n
