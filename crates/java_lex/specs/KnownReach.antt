-- How far type arguments reach.
use Rattle.std.specs.Prelude.{◌≡◌, ℕ, ◌<◌, ◌≤◌, ◌⊎◌}
use Rattle.java_lex.specs.Types.{Spans, arguments}

-- The furthest end of type arguments that begin before leaf i, or 0 where there are none.
pub record IsFurthest (c : ℕ → ℕ) (i e : ℕ) : Type 0 where
  pub bound : (k j : ℕ) → k < i → Spans c arguments k j → j ≤ e
  pub met : (e ≡ 0) ⊎ ((k : ℕ) × (k < i) × Spans c arguments k e)
