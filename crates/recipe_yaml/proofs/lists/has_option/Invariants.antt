use Rattle.std.proofs.Common.{◌≡◌, false, take}
use Rattle.std.specs.List.{list_any}
use Rattle.std.specs.Str.{bytes_eq}
use Rattle.recipe_yaml.proofs.lists.has_option.Given as goal

abbrev pub invariant-loop-option : goal.invariant-loop-option
invariant-loop-option l = list_any (λ o. bytes_eq o.key l.name) (take l.option-index l.options) ≡ false
