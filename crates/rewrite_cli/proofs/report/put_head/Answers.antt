use Rattle.std.specs.Prelude.{codes}
use Rattle.std.proofs.Common.{◌++◌, ap, ◌∙◌}
use Rattle.command_words.specs.Asking.{asked_told}
use Rattle.rewrite_cli.specs.Ends.{ran_told}
use Rattle.rewrite_cli.specs.Report.{count_read_in, number_line, text_line}
use Rattle.rewrite_cli.proofs.ReportSteps.{head_is}
use Rattle.rewrite_cli.proofs.report.put_head.Goals as goal

pub returns : goal.returns
returns c =
    c.in_ok-put_number_line-2.ensures
    ∙ (ap (λ t. t ++ number_line (codes "files") c.count_read_in.result) (c.in_ok-put_number_line.ensures ∙ ap (λ t. t ++ number_line (codes "cycles") c.args.ran.now.cycles) c.in_ok-put_text_line.ensures)
    ∙ (ap (λ n. ((c.args.text.now.items ++ text_line (codes "recipe") c.args.asked.recipe.now) ++ number_line (codes "cycles") c.args.ran.now.cycles) ++ number_line (codes "files") n) (c.count_read_in.ensures ∙ ap count_read_in c.deref.ensures.value)
    ∙ head_is c.args.text.now.items (asked_told c.args.asked) (ran_told c.args.ran.now)))
