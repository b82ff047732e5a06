use Rattle.std.proofs.Common.{◌≡◌, drop, length}
use Rattle.rw_base.specs.Arena.{AreBelow}
use Rattle.rw_base.specs.Laid.{forest_of}
use Rattle.j_attrib.specs.Around.{first_node}
use Rattle.j_attrib.proofs.declarations.names_in_node.Given as goal

abbrev pub invariant-loop-part : goal.invariant-loop-part
invariant-loop-part l = record {
  below : AreBelow (length l.u.tree.leaves) (length l.u.tree.nodes) (drop l.part-index l.parts);
  same : first_node (forest_of l.u.tree.nodes (drop l.part-index l.parts))
      ≡ first_node (forest_of l.u.tree.nodes l.parts);
}
