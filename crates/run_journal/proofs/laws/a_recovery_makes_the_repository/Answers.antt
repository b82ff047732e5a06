use Rattle.run_journal.proofs.Repositories.{recovery_closes, recovery_makes}
use Rattle.run_journal.proofs.laws.a_recovery_makes_the_repository.Goals as goal

pub returns : goal.returns
returns c = record { closed = recovery_closes; made = recovery_makes }
