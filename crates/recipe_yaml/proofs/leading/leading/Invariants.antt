use Rattle.std.proofs.Common.{◌≡◌}
use Rattle.recipe_yaml.specs.Leading.{column}
use Rattle.recipe_yaml.proofs.leading.leading.Given as goal

abbrev pub invariant-loop-k : goal.invariant-loop-k
invariant-loop-k l = l.last.items ≡ column l.book l.k
