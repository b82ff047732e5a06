use Rattle.std.proofs.Common.{◌≡◌, drop}
use Rattle.recipe_yaml.specs.Leading.{place_from}
use Rattle.recipe_yaml.proofs.leading.place_of.Given as goal

abbrev pub invariant-loop-number : goal.invariant-loop-number
invariant-loop-number l = place_from l.number l.name (drop l.number l.book) ≡ place_from 0 l.name l.book
