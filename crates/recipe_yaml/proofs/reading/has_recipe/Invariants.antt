use Rattle.std.proofs.Common.{◌≡◌, false, take}
use Rattle.std.specs.List.{list_any}
use Rattle.recipe_yaml.specs.Books.{has_recipe_type}
use Rattle.recipe_yaml.proofs.reading.has_recipe.Given as goal

abbrev pub invariant-loop-n : goal.invariant-loop-n
invariant-loop-n l = list_any (has_recipe_type l.bytes l.tree) (take l.n-index l.nodes) ≡ false
