-- How the list of seen classes grows.
use Rattle.std.specs.Prelude.{◌≡◌, ℕ, ◌<◌, ◌≤◌, List, [], ◌∷◌, ◌++◌, Some, slice_get}
use Rattle.dialogue.specs.Dialogue.{In}
use Rattle.jtypes.specs.World.{World}
use Rattle.jtypes.specs.Subtype.{supertypes}

-- no name stands twice
abbrev pub IsOnce : List (List ℕ) → Type 0
IsOnce [] = Unit {0}
IsOnce (x ∷ xs) = (In x xs → ⊥) × IsOnce xs

-- names were put at the end, so that all of the list are there
pub record Grown (names old new : List (List ℕ)) : Type 0 where
  pub extra : List (List ℕ)
  pub grown : new ≡ old ++ extra
  pub only : (b : List ℕ) → In b extra → In b names
  pub each : (b : List ℕ) → In b names → In b new
  pub once : IsOnce old → IsOnce new

-- the supertypes of the classes from one place to before another were put
pub record Expanded (w : World) (from past : ℕ) (old new : List (List ℕ)) : Type 0 where
  pub extra : List (List ℕ)
  pub grown : new ≡ old ++ extra
  pub only : (b : List ℕ) → In b extra → (a : List ℕ) × In a old × In b (supertypes w a)
  pub each : (i : ℕ) (a b : List ℕ) → from ≤ i → i < past → slice_get old i ≡ Some a → In b (supertypes w a) → In b new
  pub once : IsOnce old → IsOnce new
