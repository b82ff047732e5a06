use Rattle.std.proofs.Common.{◌≡◌, drop, length}
use Rattle.rw_base.specs.Arena.{AreBelow}
use Rattle.rw_base.specs.Laid.{forest_of}
use Rattle.java_nodes.specs.Directly.{has_word}
use Rattle.java_nodes.proofs.parts.has_word.Given as goal

abbrev pub invariant-loop-part : goal.invariant-loop-part
invariant-loop-part l = record {
  same : has_word l.class l.tree.leaves (forest_of l.tree.nodes l.parts)
      ≡ has_word l.class l.tree.leaves (forest_of l.tree.nodes (drop l.part-index l.parts));
  below : AreBelow (length l.tree.leaves) (length l.tree.nodes) (drop l.part-index l.parts);
}
