use Rattle.std.proofs.Common.{subst, sym}
use Rattle.rewrite_cli.specs.Ends.{IsStopOf}
use Rattle.rewrite_cli.proofs.Batches.{names}
use Rattle.rewrite_cli.proofs.JournalSteps.{damage_stop}
use Rattle.rewrite_cli.proofs.journals.stop_of.Goals as goal

pub returns-in-Damaged : goal.returns-in-Damaged
returns-in-Damaged c = subst (λ f. IsStopOf f c.damaged.result) (sym c.in-Damaged.is) (damage_stop c.in-Damaged.at _ c.damaged.result names.1.0 c.damaged.ensures)
