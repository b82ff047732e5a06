use Rattle.std.proofs.Common.{◌≡◌, ◌++◌, length, drop}
use Rattle.rw_base.specs.Arena.{AreBelow}
use Rattle.rw_base.specs.Laid.{forest_of}
use Rattle.recipe_yaml.specs.Nodes.{nodes_in, nodes_of}
use Rattle.recipe_yaml.specs.Parts.{AreNodes}
use Rattle.recipe_yaml.proofs.parts.nodes_of.Given as goal

abbrev pub invariant-loop-part : goal.invariant-loop-part
invariant-loop-part l = record {
  same : l.nodes.items ++ nodes_in (forest_of l.tree.nodes (drop l.part-index l.parts)) ≡ nodes_of l.tree l.fn.n;
  below : AreBelow (length l.tree.leaves) l.fn.n.0 (drop l.part-index l.parts);
  inside : AreNodes l.tree l.nodes.items;
}
