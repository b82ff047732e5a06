use Rattle.std.proofs.Common.{◌≡◌, ◌+◌, ◌*◌, ◌++◌, length, drop}
use Rattle.rw_base.specs.Arena.{AreBelow}
use Rattle.class_table.specs.Words.{parts_at, trees_of}
use Rattle.class_table.specs.Declarations.{types_in}
use Rattle.class_table.proofs.declaring.+types.Given as goal

abbrev pub decreases-add_node : goal.decreases-add_node
decreases-add_node l = 2 * l.m.0 + 1

abbrev pub decreases-add_types : goal.decreases-add_types
decreases-add_types l = 2 * l.n.0

abbrev pub invariant-add_types-loop-part : goal.invariant-add_types-loop-part
invariant-add_types-loop-part l = record {
  same : l.out.items ++ types_in l.around l.is_private (trees_of l.tree l.bytes (drop l.part-index l.parts))
      ≡ l.fn.out.items ++ types_in l.around l.is_private (parts_at l.tree l.bytes l.n.0);
  below : AreBelow (length l.tree.leaves) l.n.0 (drop l.part-index l.parts);
}
