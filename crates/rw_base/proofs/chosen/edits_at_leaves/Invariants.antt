use Rattle.std.proofs.Common.{length}
use Rattle.rw_base.specs.Chosen.{leaf_spot}
use Rattle.rw_base.proofs.Choosing.{IsChoosing}
use Rattle.rw_base.proofs.chosen.edits_at_leaves.Given as goal

abbrev pub invariant-loop-k : goal.invariant-loop-k
invariant-loop-k l = IsChoosing l.tree leaf_spot (length l.tree.leaves) l.edits l.k l.chosen.items
