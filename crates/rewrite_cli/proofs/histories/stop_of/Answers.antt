use Rattle.std.proofs.Common.{subst, sym}
use Rattle.rewrite_cli.specs.Ends.{IsStopOfHistory}
use Rattle.rewrite_cli.proofs.Batches.{names}
use Rattle.rewrite_cli.proofs.HistorySteps.{stop_damaged}
use Rattle.rewrite_cli.proofs.histories.stop_of.Goals as goal

pub returns-in-At : goal.returns-in-At
returns-in-At c = subst (λ f. IsStopOfHistory f c.damaged.result) (sym c.in-At.is) (stop_damaged c.in-At.at _ c.damaged.result names.1.1 c.damaged.ensures)
