use Rattle.std.proofs.Common.{◌≡◌, ◌≤◌, length}
use Rattle.conf_recipes.specs.PropertiesRecipes.{through_last_end}
use Rattle.conf_recipes.proofs.LastEnd.{kept_by}
use Rattle.conf_recipes.proofs.deleting.length_to_last_end.Given as goal

abbrev pub invariant-loop-i : goal.invariant-loop-i
invariant-loop-i l = record {
  kept : kept_by l.text l.i l.kept ≡ through_last_end l.text;
  inside : l.kept ≤ length l.text;
}
