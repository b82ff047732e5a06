use Rattle.run_journal.proofs.Repositories.{commit_closes, commit_makes}
use Rattle.run_journal.proofs.laws.a_commit_makes_the_repository.Goals as goal

pub returns : goal.returns
returns c = record { closed = commit_closes; made = commit_makes }
