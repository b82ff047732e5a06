use Rattle.std.proofs.Common.{◌≡◌, ℕ, ◌<◌, false}
use Rattle.std.specs.Prelude.{slice_index_or}
use Rattle.java_lex.specs.Segments.{separates}
use Rattle.rw_base.specs.Arena.{no_leaf}
use Rattle.java_lex.proofs.segment.segment_size.Given as goal

abbrev pub invariant-loop-i : goal.invariant-loop-i
invariant-loop-i l = (k : ℕ) → k < l.i → separates (slice_index_or l.leaves k no_leaf) ≡ false
