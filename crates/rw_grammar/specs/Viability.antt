-- How far leaves can go: a list is viable where it is the front of what could be derived.
use Rattle.std.specs.Prelude.{◌≡◌, ℕ, ◌+◌, ◌<◌, ◌≤◌, List, [], ◌∷◌, length, take}
use Rattle.rw_base.specs.Trees.{Forest}
use Rattle.rw_grammar.specs.Parts.{Parts, one, rule, choice, opt, many, IsAt}
use Rattle.rw_grammar.specs.Begins.{CanBeEmpty, Goes}
use Rattle.rw_grammar.specs.Derivation.{Derives}

-- A front is derived, part by part, and the rest is viable for the part that follows. Nothing is always viable.
pub data Viable (rules : ℕ → Parts) (class : ℕ → ℕ) : Parts → List ℕ → Type 0 where
  so-far : {a : Parts} {ls : List ℕ} → ls ≡ [] → Viable rules class a ls
  past-one : {c l : ℕ} {a : Parts} {ls : List ℕ} → class l ≡ c → Viable rules class a ls
      → Viable rules class (one c a) (l ∷ ls)
  in-rule : {r : ℕ} {a : Parts} {ls : List ℕ} → Viable rules class (rules r) ls → Viable rules class (rule r a) ls
  past-rule : {r : ℕ} {a : Parts} {ls mid : List ℕ} {f : Forest} → Derives rules class (rules r) ls mid f
      → Viable rules class a mid → Viable rules class (rule r a) ls
  in-choice : {i : ℕ} {x y a : Parts} {ls : List ℕ} → IsAt i y x → Goes rules class y ls → Viable rules class y ls
      → Viable rules class (choice x a) ls
  past-choice : {i : ℕ} {x y a : Parts} {ls mid : List ℕ} {f : Forest} → IsAt i y x → Goes rules class y ls
      → Derives rules class y ls mid f → Viable rules class a mid → Viable rules class (choice x a) ls
  in-empty : {i : ℕ} {x y a : Parts} {ls : List ℕ} → ((j : ℕ) (z : Parts) → IsAt j z x → Goes rules class z ls → ⊥)
      → IsAt i y x → CanBeEmpty rules y → Viable rules class y ls → Viable rules class (choice x a) ls
  past-empty : {i : ℕ} {x y a : Parts} {ls mid : List ℕ} {f : Forest}
      → ((j : ℕ) (z : Parts) → IsAt j z x → Goes rules class z ls → ⊥) → IsAt i y x → CanBeEmpty rules y →
      Derives rules class y ls mid f → Viable rules class a mid → Viable rules class (choice x a) ls
  in-opt : {x a : Parts} {ls : List ℕ} → Goes rules class x ls → Viable rules class x ls
      → Viable rules class (opt x a) ls
  past-opt : {x a : Parts} {ls mid : List ℕ} {f : Forest} → Goes rules class x ls → Derives rules class x ls mid f
      → Viable rules class a mid → Viable rules class (opt x a) ls
  no-opt : {x a : Parts} {ls : List ℕ} → (Goes rules class x ls → ⊥) → Viable rules class a ls
      → Viable rules class (opt x a) ls
  in-more : {x a : Parts} {ls : List ℕ} → Goes rules class x ls → Viable rules class x ls
      → Viable rules class (many x a) ls
  past-more : {x a : Parts} {ls mid : List ℕ} {f : Forest} → Goes rules class x ls → Derives rules class x ls mid f
      → Viable rules class (many x a) mid → Viable rules class (many x a) ls
  no-more : {x a : Parts} {ls : List ℕ} → (Goes rules class x ls → ⊥) → Viable rules class a ls
      → Viable rules class (many x a) ls

-- The leaf after the longest viable front: every front up to before it is viable, and the one with it isn't. Where all
-- leaves are viable, it is their number. And they aren't derived.
pub record StopsAt (rules : ℕ → Parts) (class : ℕ → ℕ) (p : Parts) (ls : List ℕ) (at : ℕ) : Type 0 where
  pub within : at ≤ length ls
  pub viable : (k : ℕ) → k ≤ at → Viable rules class p (take k ls)
  pub further : at < length ls → Viable rules class p (take (at + 1) ls) → ⊥
  pub not_derived : (t : Forest) → Derives rules class p ls [] t → ⊥
