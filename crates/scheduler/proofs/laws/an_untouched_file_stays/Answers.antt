use Rattle.scheduler.proofs.Spared.{step_same}
use Rattle.scheduler.proofs.Untouched.{untouched_last, untouched_same}
use Rattle.scheduler.proofs.laws.an_untouched_file_stays.Goals as goal

pub returns-clause-step : goal.returns-clause-step
returns-clause-step c = λ read plan leaf value files path there spares.
    step_same read plan leaf value files path spares there

pub returns-clause-states : goal.returns-clause-states
returns-clause-states c = λ read plan cycles files path untouched. untouched_same path read plan cycles files untouched

pub returns-clause-last : goal.returns-clause-last
returns-clause-last c = λ read plan cycles files last events path untouched comes.
    untouched_last path read plan cycles files last events untouched comes
