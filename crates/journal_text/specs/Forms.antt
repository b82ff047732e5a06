-- Texts that spell values, and reading them from a place in some bytes.
use Rattle.std.specs.Prelude.{◌≡◌, ℕ, ◌≤◌, List, [], ◌∷◌, ◌++◌, length, drop}

-- which texts spell a value
abbrev pub Form : Type 0 → Type 1
Form X = X → List ℕ → Type 0

-- one text behind another, whose form may depend on the first value
pub record Then {X Y : Type 0} (one : Form X) (next : X → Form Y) (both : X × Y) (text : List ℕ) : Type 0 where
  pub first : List ℕ
  pub second : List ℕ
  pub spells : one both.0 first
  pub then : next both.0 both.1 second
  pub joined : text ≡ first ++ second

-- a text of the form stands there and ends at that place
pub record Took {X : Type 0} (form : Form X) (bytes : List ℕ) (at end : ℕ) (x : X) : Type 0 where
  pub place : end ≤ length bytes
  pub text : List ℕ
  pub spells : form x text
  pub taken : drop at bytes ≡ text ++ drop end bytes

-- some text of the form begins with these bytes
abbrev pub Begins : {X : Type 0} → Form X → List ℕ → Type 0
Begins {X} form front = (x : X) × ((rest : List ℕ) × form x (front ++ rest))

-- the next byte of some bytes, where there is one, and any bytes behind it
abbrev pub next_of : List ℕ → List ℕ → List ℕ
next_of [] more = []
next_of (b ∷ behind) more = b ∷ more

-- some text of the form begins with the front; with the next byte none does, nor is one a front of these bytes
pub record Stuck {X : Type 0} (form : Form X) (front behind : List ℕ) : Type 0 where
  pub begins : Begins form front
  pub refuses : (x : X) (text rest more : List ℕ) → form x text → front ++ next_of behind more ≡ text ++ rest → ⊥

-- the same of the bytes from a place on: reading stops at another place
pub record StuckAt {X : Type 0} (form : Form X) (bytes : List ℕ) (at end : ℕ) : Type 0 where
  pub place : end ≤ length bytes
  pub front : List ℕ
  pub seen : drop at bytes ≡ front ++ drop end bytes
  pub stuck : Stuck form front (drop end bytes)
