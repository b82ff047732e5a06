use Rattle.std.proofs.Common.{ap, ◌∙◌}
use Rattle.csv.specs.Records.{fields_of}
use Rattle.run_history.specs.Said.{row_said}
use Rattle.run_history.specs.declared.row.RunRow.{RunRow}
use Rattle.run_history.proofs.Fields.{one_run}
use Rattle.run_history.proofs.record.row_of.Goals as goal
use Rattle.run_history.proofs.record.row_of.Goals.{in_default-via-in-Some+else-said-run, in_default-via-in_default}

pub returns-in_default-clause-out : goal.returns-in_default-clause-out
returns-in_default-clause-out c =
    λ row number h.
    elim c.in_default.branch [
      | in_default-via-in-Some+else-said-run w ↦
          w.if-said-run.false (ap (λ (one : RunRow). one.run) (one_run (row_said w.in-Some.said) row (fields_of c.args.entry.now) w.in-Some.ensures.some h) ∙ number)
      | in_default-via-in_default w ↦ w.in_default.ensures.none row h
    ]
