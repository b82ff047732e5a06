use Rattle.std.proofs.Common.{Err, ap, ◌∙◌}
use Rattle.std.specs.Option.{option_map}
use Rattle.rewrite_cli.specs.Journals.{laid}
use Rattle.rewrite_cli.proofs.PlanSteps.{file_is, silent_store, store_stop}
use Rattle.rewrite_cli.proofs.planning.read_recipe_file.Goals as goal

pub returns-in-Ok-clause-bytes : goal.returns-in-Ok-clause-bytes
returns-in-Ok-clause-bytes g c = λ told. file_is (laid c.args.entries.now (g.S.Store.files c.args.store.now)) (option_map (λ v. v.items) c.in-Ok.found) (c.in-Ok.ensures.bytes told)

pub returns-in-Err-clause-silent : goal.returns-in-Err-clause-silent
returns-in-Err-clause-silent g c = silent_store c.in-Err.fault c.from.result c.from.ensures

pub returns-in-Err-clause-stop : goal.returns-in-Err-clause-stop
returns-in-Err-clause-stop g c = store_stop c.in-Err.fault c.from.result c.from.ensures (λ e. c.read_standing.ensures.not_many (c.in-Err.is ∙ ap Err e))
