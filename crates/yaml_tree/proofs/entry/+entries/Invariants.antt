use Rattle.std.proofs.Common.{◌≡◌, ◌+◌, ◌*◌, ◌++◌, length, drop}
use Rattle.rw_base.specs.Arena.{AreBelow}
use Rattle.rw_base.specs.Laid.{kids_of, forest_of}
use Rattle.rw_grammar.specs.Results.{class_in}
use Rattle.yaml_tree.specs.Entries.{entries_in}
use Rattle.yaml_tree.proofs.entry.+entries.Given as goal

abbrev pub decreases-push_below : goal.decreases-push_below
decreases-push_below l = 2 * l.n.0

abbrev pub decreases-push_node : goal.decreases-push_node
decreases-push_node l = 2 * l.m.0 + 1

abbrev pub invariant-push_below-loop-part : goal.invariant-push_below-loop-part
invariant-push_below-loop-part l = record {
  same : l.out.items ++ entries_in (class_in l.tree.leaves) l.in_mapping (forest_of l.tree.nodes (drop l.part-index
      l.parts))
      ≡ l.fn.out.items ++ entries_in (class_in l.tree.leaves) l.in_mapping (kids_of l.tree.nodes l.n.0);
  below : AreBelow (length l.tree.leaves) l.n.0 (drop l.part-index l.parts);
}
