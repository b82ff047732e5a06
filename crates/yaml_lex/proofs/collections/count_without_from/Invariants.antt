use Rattle.std.proofs.Common.{◌≡◌, ◌≤◌, length, reverse, take}
use Rattle.yaml_lex.specs.Collections.{without_from}
use Rattle.yaml_lex.proofs.collections.count_without_from.Given as goal

abbrev pub invariant-loop-count : goal.invariant-loop-count
invariant-loop-count l = record {
  inside : l.count ≤ length l.collections;
  same : without_from l.column (reverse (take l.count l.collections)) ≡ without_from l.column (reverse l.collections);
}

abbrev pub decreases-loop-count : goal.decreases-loop-count
decreases-loop-count l = l.count
