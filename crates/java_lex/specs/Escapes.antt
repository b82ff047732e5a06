-- Where a text holds an escape that is refused.
use Rattle.std.specs.Prelude.{◌≡◌, ℕ, ◌+◌, ◌<◌, ◌%◌, ◌==◌, List, [], ◌∷◌, take, drop, if◌then◌else◌}
use Rattle.rw_base.specs.Expressions.{Expression, Matches}

-- how many backslashes a text ends in, where so many stand directly before it
abbrev pub backslashes_from : ℕ → List ℕ → ℕ
backslashes_from count [] = count
backslashes_from count (b ∷ rest) = backslashes_from (if b == 92 then count + 1 else 0) rest

abbrev pub backslashes : List ℕ → ℕ
backslashes s = backslashes_from 0 s

-- An escape of these stands at byte n. Its backslash counts only after an even number of backslashes (JLS 3.3).
pub record IsRefusedAt (escape : Expression) (s : List ℕ) (n : ℕ) : Type 0 where
  pub size : ℕ
  pub is : Matches escape (take size (drop n s))
  pub eligible : backslashes (take n s) % 2 ≡ 0

-- the first escape of these stands at byte n
pub record IsFirstRefused (escape : Expression) (s : List ℕ) (n : ℕ) : Type 0 where
  pub stands : IsRefusedAt escape s n
  pub first : (k : ℕ) → k < n → IsRefusedAt escape s k → ⊥

-- none stands anywhere
abbrev pub NoneRefused : Expression → List ℕ → Type 0
NoneRefused escape s = (n : ℕ) → IsRefusedAt escape s n → ⊥
