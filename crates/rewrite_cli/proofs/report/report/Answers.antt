use Rattle.std.proofs.Common.{◌++◌, ◌∙◌, ap, sym}
use Rattle.command_words.specs.Asking.{asked_told}
use Rattle.rewrite_cli.specs.Ends.{ran_told}
use Rattle.rewrite_cli.proofs.ReportSteps.{report_by}
use Rattle.rewrite_cli.proofs.report.report.Goals as goal

pub returns-clause-text : goal.returns-clause-text
returns-clause-text c =
    let ran = c.args.ran.now in
    report_by (asked_told c.args.asked) (ran_told ran) c.args.changes.now c.deref.result.now c.as_slice.result.now _ _ _ _ _ _ _
    c.new-text.ensures.items c.in_ok-put_head.ensures c.in_ok-put_counts.ensures c.in_ok-put_changes.ensures c.in_ok-put_events.ensures c.in_ok-put_events-2.ensures c.in_ok-put_still.ensures
    c.requires (ap (λ es. es ++ ran.events) (sym c.deref.ensures.value) ∙ ap (λ es. c.deref.result.now ++ es) (sym c.as_slice.ensures))
