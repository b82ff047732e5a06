use Rattle.std.proofs.Common.{sym, ap, ◌∙◌, arith, ◌+◌}
use Rattle.std.proofs.lemmas.Bool.{eq-eqb, ne_eqb}
use Rattle.std.proofs.lemmas.List.{take_rest}
use Rattle.properties_tree.specs.Cutting.{joins, joint_size}
use Rattle.properties_tree.proofs.Loops.{next_none, next_end, next_char, next_joint, next_pair}
use Rattle.properties_tree.proofs.pieces.next_at.Goals as goal

pub returns-then-at-text : goal.returns-then-at-text
returns-then-at-text c = next_none c.args.text.now c.args.at (omega arith)

pub returns-then-is_line_end : goal.returns-then-is_line_end
returns-then-is_line_end c = next_end c.args.text.now c.args.at (omega arith) (sym c.is_line_end.ensures ∙ c.if-is_line_end.true)

pub returns-then-b-ne92 : goal.returns-then-b-ne92
returns-then-b-ne92 c = next_char c.args.text.now c.args.at (omega arith) (sym c.is_line_end.ensures ∙ c.if-is_line_end.false) (ne_eqb _ 92 c.if-b-ne92.true)

pub returns-then-joins : goal.returns-then-joins
returns-then-joins c =
    let all = take_rest c.args.text.now (c.args.at + 1) in
    next_joint c.args.text.now c.args.at (omega arith) c.joint_size.result (eq-eqb _ 92 c.if-b-ne92.false)
    (sym (c.joins.ensures ∙ ap joins all) ∙ c.if-joins.true) (c.joint_size.ensures.value ∙ ap joint_size all)

pub returns-else-joins : goal.returns-else-joins
returns-else-joins c =
    let all = take_rest c.args.text.now (c.args.at + 1) in
    rw all (next_pair c.args.text.now c.args.at (omega arith) (eq-eqb _ 92 c.if-b-ne92.false) (sym (c.joins.ensures ∙ ap joins all) ∙ c.if-joins.false))
