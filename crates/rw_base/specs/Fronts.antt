-- How far bytes can be the front of a text of a form. An exact place of a small language is the length of such a
-- front.
use Rattle.std.specs.Prelude.{ℕ, ◌+◌, ◌<◌, ◌≤◌, List, ◌++◌, length, take}

-- a form: which texts spell which value
abbrev pub Form : Type 0 → Type 1
Form X = X → List ℕ → Type 0

-- these bytes are the front of some text of the form
abbrev pub BeginsSome : {X : Type 0} → Form X → List ℕ → Type 0
BeginsSome {X} form front = (x : X) × ((rest : List ℕ) × form x (front ++ rest))

-- The first n bytes are the longest front that begins some text of the form: the next byte can't follow them.
pub record IsLongestFront {X : Type 0} (form : Form X) (bytes : List ℕ) (n : ℕ) : Type 0 where
  pub within : n ≤ length bytes
  pub begins : BeginsSome form (take n bytes)
  pub ends : n < length bytes → BeginsSome form (take (n + 1) bytes) → ⊥
