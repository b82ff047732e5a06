use Rattle.std.proofs.Common.{◌≡◌, ◌+◌, ◌++◌, length, take, drop, map, false}
use Rattle.conf_recipes.specs.PathMarks.{part_here, part_carries}
use Rattle.conf_recipes.proofs.Marks.{marks_from}
use Rattle.conf_recipes.proofs.path_patterns.mark_parts.Given as goal

abbrev pub invariant-loop-i : goal.invariant-loop-i
invariant-loop-i l = record {
  long : length l.marks ≡ length l.parts + 1;
  same : take l.i l.marks ++ marks_from (λ x. part_here l.p) (part_carries l.p) (part_here l.p) l.carried (drop l.i l.marks) (drop l.i (map (λ x. x.now) l.parts))
      ≡ marks_from (λ x. part_here l.p) (part_carries l.p) (part_here l.p) false l.initial.marks (map (λ x. x.now) l.parts);
}
