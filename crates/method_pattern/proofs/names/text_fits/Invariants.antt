use Rattle.std.proofs.Common.{◌≡◌, ℕ}
use Rattle.method_pattern.proofs.Tries.{Try, tries_left}
use Rattle.method_pattern.proofs.names.text_fits.Given as goal

abbrev pub invariant-loop-others : goal.invariant-loop-others
invariant-loop-others l = Try (λ (p : ℕ). p ≡ 42) (λ (p : ℕ) (b : ℕ). p ≡ b) l.pattern l.text l.left l.rest l.behind l.from

abbrev pub decreases-loop-others : goal.decreases-loop-others
decreases-loop-others l = tries_left (λ (p : ℕ). p ≡ 42) (λ (p : ℕ) (b : ℕ). p ≡ b) l.pattern l.text l.left l.behind l.from
