use Rattle.std.proofs.Common.{◌≡◌, ℕ, false, length, drop, get_or}
use Rattle.conf_recipes.specs.YamlDeletions.{is_among}
use Rattle.conf_recipes.proofs.YamlDeletions.{marked, HaveMarks}
use Rattle.conf_recipes.proofs.yaml_deletions.marks.Given as goal

abbrev pub invariant-loop-n : goal.invariant-loop-n
invariant-loop-n l = record {
  long : length l.marks.items ≡ l.count;
  fine : HaveMarks l.count (drop l.n-index l.found);
  same : (m : ℕ) → get_or (marked l.marks.items (drop l.n-index l.found)) m false ≡ is_among l.found m;
}
