use Rattle.std.proofs.Common.{Err, ap, ◌∙◌}
use Rattle.rewrite_cli.proofs.HistorySteps.{fault_of_store}
use Rattle.rewrite_cli.proofs.commits.look_at_path.Goals as goal

pub returns-in-Err-clause-stop : goal.returns-in-Err-clause-stop
returns-in-Err-clause-stop g c = fault_of_store c.in-Err.fault c.from.result c.from.ensures (λ e. c.read.ensures.not_many (c.in-Err.is ∙ ap Err e))
