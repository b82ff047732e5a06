use Rattle.std.proofs.Common.{◌≡◌, [], drop}
use Rattle.recipe_yaml.specs.Checked.{each}
use Rattle.recipe_yaml.specs.Nodes.{nodes_of}
use Rattle.recipe_yaml.specs.WrittenEntries.{with_entry}
use Rattle.recipe_yaml.proofs.lists.entries.Given as goal

abbrev pub invariant-loop-m : goal.invariant-loop-m
invariant-loop-m l =
    each (with_entry l.bytes l.tree) l.entries (drop l.m-index l.m-items)
    ≡ each (with_entry l.bytes l.tree) [] (nodes_of l.tree l.fn.n)
