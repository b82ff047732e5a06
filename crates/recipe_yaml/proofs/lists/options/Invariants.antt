use Rattle.std.proofs.Common.{◌≡◌, [], drop}
use Rattle.recipe_yaml.specs.Checked.{each}
use Rattle.recipe_yaml.specs.Nodes.{nodes_of}
use Rattle.recipe_yaml.specs.WrittenEntries.{with_option}
use Rattle.recipe_yaml.proofs.lists.options.Given as goal

abbrev pub invariant-loop-m : goal.invariant-loop-m
invariant-loop-m l =
    each (with_option l.bytes l.tree) l.options (drop l.m-index l.m-items)
    ≡ each (with_option l.bytes l.tree) [] (nodes_of l.tree l.fn.n)
