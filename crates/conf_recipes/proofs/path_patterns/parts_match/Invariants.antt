use Rattle.std.proofs.Common.{◌≡◌, ◌+◌, length, drop, map}
use Rattle.conf_recipes.specs.PathMarks.{some_marked}
use Rattle.conf_recipes.specs.PathPatterns.{parts_match}
use Rattle.conf_recipes.proofs.path_patterns.parts_match.Given as goal

abbrev pub invariant-loop-i : goal.invariant-loop-i
invariant-loop-i l = record {
  long : length l.marks.items ≡ length l.parts + 1;
  same : some_marked (parts_match (drop l.i (map (λ x. x.now) l.forms))) l.marks.items (map (λ x. x.now) l.parts) ≡ parts_match (map (λ x. x.now) l.forms) (map (λ x. x.now) l.parts);
}
