use Rattle.std.proofs.Common.{◌≡◌, false, take}
use Rattle.std.specs.List.{list_any}
use Rattle.std.specs.Str.{bytes_eq}
use Rattle.recipe_yaml.proofs.reading.has_name.Given as goal

abbrev pub invariant-loop-written : goal.invariant-loop-written
invariant-loop-written l = list_any (λ w. bytes_eq w.name l.name) (take l.written-index l.before) ≡ false
