use Rattle.scheduler.proofs.Touching.{run_touches, step_touches}
use Rattle.scheduler.proofs.laws.a_path_is_the_same_or_touched.Goals as goal

pub returns-clause-step : goal.returns-clause-step
returns-clause-step c = λ read plan leaf value files path. step_touches path read plan leaf value files

pub returns-clause-run : goal.returns-clause-run
returns-clause-run c = λ read plan cycles files last events path comes.
    run_touches path read plan cycles files last events comes
