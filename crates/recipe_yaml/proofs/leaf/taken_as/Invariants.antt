use Rattle.std.proofs.Common.{◌≡◌, drop}
use Rattle.recipe_yaml.specs.Leaves.{taken_as}
use Rattle.recipe_yaml.proofs.leaf.taken_as.Given as goal

abbrev pub invariant-loop-option : goal.invariant-loop-option
invariant-loop-option l = taken_as (drop l.option-index l.taken) l.key ≡ taken_as l.taken l.key
