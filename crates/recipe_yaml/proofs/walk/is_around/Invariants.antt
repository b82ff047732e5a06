use Rattle.std.proofs.Common.{◌≡◌, ◌==◌, false, take}
use Rattle.std.specs.List.{list_any}
use Rattle.recipe_yaml.proofs.walk.is_around.Given as goal

abbrev pub invariant-loop-outer : goal.invariant-loop-outer
invariant-loop-outer l = list_any (λ a. a == l.number) (take l.outer-index l.around) ≡ false
