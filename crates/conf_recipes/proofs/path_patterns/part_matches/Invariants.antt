use Rattle.std.proofs.Common.{◌≡◌, ◌+◌, length, drop}
use Rattle.conf_recipes.specs.PathMarks.{some_marked}
use Rattle.conf_recipes.specs.PathPatterns.{part_matches}
use Rattle.conf_recipes.proofs.path_patterns.part_matches.Given as goal

abbrev pub invariant-loop-i : goal.invariant-loop-i
invariant-loop-i l = record {
  long : length l.marks.items ≡ length l.part + 1;
  same : some_marked (part_matches (drop l.i l.pattern)) l.marks.items l.part ≡ part_matches l.pattern l.part;
}
