use Rattle.std.proofs.Common.{◌≡◌, ◌+◌, ◌≤◌, drop, length}
use Rattle.rw_base.specs.Arena.{AreBelow}
use Rattle.rw_base.specs.Laid.{forest_of}
use Rattle.java_nodes.specs.Directly.{kinds_in, count_of}
use Rattle.java_nodes.proofs.parts.count_of.Given as goal

abbrev pub invariant-loop-part : goal.invariant-loop-part
invariant-loop-part l = record {
  same : l.count + count_of l.kind (kinds_in (forest_of l.tree.nodes (drop l.part-index l.parts)))
      ≡ count_of l.kind (kinds_in (forest_of l.tree.nodes l.parts));
  few : l.count ≤ l.part-index;
  below : AreBelow (length l.tree.leaves) (length l.tree.nodes) (drop l.part-index l.parts);
}
