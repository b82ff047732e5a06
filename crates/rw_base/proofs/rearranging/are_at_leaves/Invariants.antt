use Rattle.rw_base.proofs.Touching.{AreLeftAtLeaves}
use Rattle.rw_base.proofs.rearranging.are_at_leaves.Given as goal

abbrev pub invariant-loop-edit : goal.invariant-loop-edit
invariant-loop-edit l = AreLeftAtLeaves l.tree l.edits l.edit-index
