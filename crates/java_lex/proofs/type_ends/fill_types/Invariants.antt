use Rattle.std.proofs.Common.{ℕ, ◌≤◌, length}
use Rattle.java_lex.specs.Segments.{class_at}
use Rattle.java_lex.specs.KnownTypes.{Knows, types_at}
use Rattle.java_lex.proofs.type_ends.fill_types.Given as goal

abbrev pub invariant-loop-i : goal.invariant-loop-i
invariant-loop-i l = record { inside : l.i ≤ length l.leaves; known : (k : ℕ) → l.i ≤ k → Knows (class_at l.leaves) k (types_at l.types k) }

abbrev pub decreases-loop-i : goal.decreases-loop-i
decreases-loop-i l = l.i
