use Rattle.std.proofs.Common.{◌-◌, length, take, drop, ◌∙◌, ap}
use Rattle.std.proofs.lemmas.List.{take_rest}
use Rattle.yaml_tree.specs.Decoding.{column_behind}
use Rattle.yaml_tree.proofs.ScalarSteps.{counted}
use Rattle.yaml_tree.proofs.scalars.column_at.Goals as goal

pub returns : goal.returns
returns c =
    let front = take c.args.at c.args.bytes.now in
    let skip = c.min.result in
    c.column_behind.ensures
    ∙ (ap (column_behind 0) (take_rest (take (length front - skip) (drop skip front)) c.line_start.result)
    ∙ (c.line_start.ensures.line
    ∙ (ap (column_behind 0) (take_rest front skip)
    ∙ counted c.args.bytes.now c.args.at c.mark_size.result skip c.mark_size.ensures c.min.ensures)))
