-- What a sink was given.
use Rattle.std.specs.Prelude.{◌≡◌, ℕ, List, ◌++◌, take}

-- a prefix of the piece stands behind what was put before
abbrev pub PutsPrefix : List ℕ → List ℕ → List ℕ → Type 0
PutsPrefix old piece new = (n : ℕ) × (new ≡ old ++ take n piece)

-- a sink in memory: what was put, how many bytes it takes in all, and how many calls have failed
pub record Filling : Type 0 where
  pub bytes : List ℕ
  pub room : ℕ
  pub faults : ℕ
