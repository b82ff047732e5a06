use Rattle.std.proofs.Common.{ℕ, ◌≤◌, ◌<◌}
use Rattle.method_pattern.specs.Letters.{IsLetterOf}
use Rattle.method_pattern.proofs.letters.begins_letter.Given as goal

-- no code so far is that of a letter with this front
abbrev pub invariant-loop-code : goal.invariant-loop-code
invariant-loop-code l = (k : ℕ) → l.low ≤ k → k < l.code → IsLetterOf l.behind_letters l.front k → ⊥
