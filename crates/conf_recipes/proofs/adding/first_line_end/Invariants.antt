use Rattle.std.proofs.Common.{◌≡◌, drop}
use Rattle.conf_recipes.specs.PropertiesRecipes.{first_line_end}
use Rattle.conf_recipes.proofs.adding.first_line_end.Given as goal

abbrev pub invariant-loop-i : goal.invariant-loop-i
invariant-loop-i l = first_line_end (drop l.i l.bytes) ≡ first_line_end l.bytes
