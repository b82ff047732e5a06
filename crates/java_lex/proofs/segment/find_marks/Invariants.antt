use Rattle.std.proofs.Common.{ℕ, ◌<◌}
use Rattle.std.specs.Prelude.{slice_index}
use Rattle.java_lex.specs.Marks.{IsMark}
use Rattle.java_lex.specs.Segments.{class_at, is_tight}
use Rattle.java_lex.specs.KnownReach.{IsFurthest}
use Rattle.java_lex.proofs.segment.find_marks.Given as goal

abbrev pub invariant-loop-i : goal.invariant-loop-i
invariant-loop-i l = record {
  furthest : IsFurthest (class_at l.leaves) l.i l.furthest;
  done : (k : ℕ) → k < l.i → IsMark (class_at l.leaves) (is_tight l.leaves) k (slice_index l.marks k);
}
