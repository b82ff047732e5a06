use Rattle.std.proofs.Common.{ℕ, ◌≤◌, length}
use Rattle.java_lex.specs.Segments.{class_at, is_tight}
use Rattle.java_lex.specs.KnownBrackets.{KnowsBrackets, KnowsSet, brackets_at}
use Rattle.java_lex.proofs.brackets.fill_brackets.Given as goal

abbrev pub invariant-loop-i : goal.invariant-loop-i
invariant-loop-i l = record { inside : l.i ≤ length l.leaves; known : (k : ℕ) → l.i ≤ k → KnowsBrackets (class_at l.leaves) k (brackets_at l.brackets k); sets : (k : ℕ) → l.i ≤ k → KnowsSet (class_at l.leaves) (is_tight l.leaves) k (brackets_at l.brackets k) }

abbrev pub decreases-loop-i : goal.decreases-loop-i
decreases-loop-i l = l.i
