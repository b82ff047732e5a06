use Rattle.std.proofs.Common.{◌≡◌, [], drop}
use Rattle.recipe_yaml.specs.Checked.{each}
use Rattle.recipe_yaml.specs.Nodes.{nodes_of}
use Rattle.recipe_yaml.specs.Books.{with_document}
use Rattle.recipe_yaml.proofs.reading.documents.Given as goal

abbrev pub invariant-loop-m : goal.invariant-loop-m
invariant-loop-m l =
    each (with_document l.bytes l.tree) l.recipes (drop l.m-index l.m-items)
    ≡ each (with_document l.bytes l.tree) [] (nodes_of l.tree l.fn.n)
