use Rattle.std.proofs.Common.{◌≡◌, ◌≤◌, drop}
use Rattle.properties_tree.specs.Lines.{backslashes_behind}
use Rattle.conf_recipes.proofs.adding.is_continued.Given as goal

abbrev pub invariant-loop-i : goal.invariant-loop-i
invariant-loop-i l = record {
  few : l.count ≤ l.i;
  same : backslashes_behind l.count (drop l.i l.text) ≡ backslashes_behind 0 l.text;
}
