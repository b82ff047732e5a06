use Rattle.std.proofs.Common.{ℕ, ◌+◌, ◌-◌, ◌<◌, ◌≤◌, length}
use Rattle.java_lex.specs.Blanks.{ClosesAt}
use Rattle.java_lex.proofs.blank.block_comment_size.Given as goal

-- no `*/` ends before byte `at`
abbrev pub invariant-loop-at : goal.invariant-loop-at
invariant-loop-at l = record {
  low : 3 ≤ l.at;
  open_ : (k : ℕ) → 2 ≤ k → k + 1 < l.at → ClosesAt l.text k → ⊥;
}

abbrev pub decreases-loop-at : goal.decreases-loop-at
decreases-loop-at l = length l.initial.text - l.at
