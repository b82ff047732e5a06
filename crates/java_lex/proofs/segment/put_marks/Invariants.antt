use Rattle.std.proofs.Common.{◌≡◌, ℕ, ◌<◌, ◌≤◌}
use Rattle.std.specs.Prelude.{slice_index_or, slice_index}
use Rattle.java_lex.specs.Segments.{with_class}
use Rattle.rw_base.specs.Arena.{no_leaf}
use Rattle.java_lex.proofs.segment.put_marks.Given as goal

abbrev pub invariant-loop-i : goal.invariant-loop-i
invariant-loop-i l = record {
  done : (k : ℕ) → k < l.i → slice_index_or l.leaves k no_leaf ≡ with_class (slice_index_or l.initial.leaves k no_leaf) (slice_index l.marks k);
  left : (k : ℕ) → l.i ≤ k → slice_index_or l.leaves k no_leaf ≡ slice_index_or l.initial.leaves k no_leaf;
}
