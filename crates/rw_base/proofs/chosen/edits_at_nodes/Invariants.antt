use Rattle.std.proofs.Common.{length}
use Rattle.rw_base.specs.Chosen.{node_spot}
use Rattle.rw_base.proofs.Choosing.{IsChoosing}
use Rattle.rw_base.proofs.chosen.edits_at_nodes.Given as goal

abbrev pub invariant-loop-k : goal.invariant-loop-k
invariant-loop-k l = IsChoosing l.tree node_spot (length l.tree.nodes) l.edits l.k l.chosen.items
