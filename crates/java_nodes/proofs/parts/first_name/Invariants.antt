use Rattle.std.proofs.Common.{◌≡◌, drop, length}
use Rattle.rw_base.specs.Arena.{AreBelow}
use Rattle.rw_base.specs.Laid.{forest_of}
use Rattle.java_nodes.specs.Directly.{names_in, first_of}
use Rattle.java_nodes.proofs.parts.first_name.Given as goal

abbrev pub invariant-loop-part : goal.invariant-loop-part
invariant-loop-part l = record {
  same : first_of (names_in l.tree.leaves (forest_of l.tree.nodes l.parts))
      ≡ first_of (names_in l.tree.leaves (forest_of l.tree.nodes (drop l.part-index l.parts)));
  below : AreBelow (length l.tree.leaves) (length l.tree.nodes) (drop l.part-index l.parts);
}
