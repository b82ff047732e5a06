use Rattle.std.proofs.Common.{Err, ap, ◌∙◌}
use Rattle.std.specs.Option.{option_map}
use Rattle.rewrite_cli.specs.Journals.{laid}
use Rattle.rewrite_cli.proofs.Batches.{names}
use Rattle.rewrite_cli.proofs.HistorySteps.{fault_of_store, history_read}
use Rattle.rewrite_cli.proofs.histories.read_file.Goals as goal

pub returns-in-Ok-clause-bytes : goal.returns-in-Ok-clause-bytes
returns-in-Ok-clause-bytes g c = λ told.
    history_read (laid c.args.entries.now (g.S.Store.files c.args.store.now)) _ c.found_bytes.result.items (option_map (λ v. v.items) c.in-Ok.found) names.1.1 (c.in-Ok.ensures.bytes told) c.found_bytes.ensures

pub returns-in-Err-clause-stop : goal.returns-in-Err-clause-stop
returns-in-Err-clause-stop g c = fault_of_store c.in-Err.fault c.from.result c.from.ensures (λ e. c.read_standing.ensures.not_many (c.in-Err.is ∙ ap Err e))
