use Rattle.std.proofs.Common.{◌≡◌, drop}
use Rattle.recipe_yaml.specs.Checked.{each}
use Rattle.recipe_yaml.specs.Books.{no_root, with_node}
use Rattle.recipe_yaml.proofs.reading.with_nodes.Given as goal

abbrev pub invariant-loop-n : goal.invariant-loop-n
invariant-loop-n l =
    each (with_node l.bytes l.tree l.before) l.root (drop l.n-index l.nodes)
    ≡ each (with_node l.bytes l.tree l.before) no_root l.nodes
