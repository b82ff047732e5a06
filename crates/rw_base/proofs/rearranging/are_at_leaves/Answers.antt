use Rattle.std.proofs.Common.{ap, ◌∙◌}
use Rattle.rw_base.specs.declared.edit.Edit.{Edit}
use Rattle.rw_base.proofs.Touching.{leaf_seen, none_left_at_leaves}
use Rattle.rw_base.proofs.rearranging.are_at_leaves.Goals as goal

pub loop-edit-preserved : goal.loop-edit-preserved
loop-edit-preserved c =
    leaf_seen c.args.tree.now c.args.edits.now c.loop-edit.edit-index c.edit-item.result c.loop-edit-test.true c.loop-edit.invariant
    (λ n same. c.in_default.not-Node n (ap (λ (e : Edit). e.spot) c.edit-item.is ∙ same))

pub returns : goal.returns
returns c = λ _. none_left_at_leaves c.args.tree.now c.args.edits.now c.loop-edit.edit-index c.loop-edit-test.false c.loop-edit.invariant
