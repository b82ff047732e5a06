use Rattle.std.proofs.Common.{◌≡◌, ◌++◌, map, drop}
use Rattle.recipe_yaml.specs.Leading.{recipe_leads, next_column}
use Rattle.recipe_yaml.proofs.leading.next_column.Given as goal

abbrev pub invariant-loop-recipe : goal.invariant-loop-recipe
invariant-loop-recipe l = l.next.items ++ map (recipe_leads l.book l.column) (drop l.recipe-index l.book) ≡ next_column l.book l.column
