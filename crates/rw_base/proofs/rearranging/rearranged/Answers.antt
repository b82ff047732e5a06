use Rattle.std.proofs.Common.{sym, ◌∙◌, refl}
use Rattle.rw_base.specs.Laws.{leaf_edits_new}
use Rattle.rw_base.proofs.TaskSteps.{if_ok}
use Rattle.rw_base.proofs.rearranging.rearranged.Goals as goal

pub returns-then-are_at_leaves : goal.returns-then-are_at_leaves
returns-then-are_at_leaves c =
    if_ok c.with_leaves_edited.result _ _
    (λ text e. e ∙ sym (leaf_edits_new c.args.tree.now c.with_leaves_edited.ensures.tree c.args.bytes.now c.args.edits.now (c.if-are_at_leaves.ensures refl)))
    c.with_leaves_edited.ensures.text
