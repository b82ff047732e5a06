use Rattle.std.proofs.Common.{◌≡◌, ◌++◌, false, map, drop}
use Rattle.recipe_yaml.specs.Leading.{column}
use Rattle.recipe_yaml.proofs.leading.no_column.Given as goal

abbrev pub invariant-loop : goal.invariant-loop
invariant-loop l = l.column.items ++ map (λ r. false) (drop l.index l.book) ≡ column l.book 0
