-- What can be empty, and what can begin with what.
use Rattle.std.specs.Prelude.{◌≡◌, ℕ, List, [], ◌∷◌}
use Rattle.rw_grammar.specs.Parts.{Parts, end, one, rule, choice, opt, many, IsAt}

-- shapes that can stand for no leaf at all
pub data CanBeEmpty (rules : ℕ → Parts) : Parts → Type 0 where
  empty-end : CanBeEmpty rules end
  empty-rule : {r : ℕ} {a : Parts} → CanBeEmpty rules (rules r) → CanBeEmpty rules a → CanBeEmpty rules (rule r a)
  empty-choice : {i : ℕ} {x y a : Parts} → IsAt i y x → CanBeEmpty rules y → CanBeEmpty rules a
      → CanBeEmpty rules (choice x a)
  empty-opt : {x a : Parts} → CanBeEmpty rules a → CanBeEmpty rules (opt x a)
  empty-many : {x a : Parts} → CanBeEmpty rules a → CanBeEmpty rules (many x a)

-- what stands in front: a leaf of a class, or a rule
pub data Front : Type 0 where
  of_class : ℕ → Front
  of_rule : ℕ → Front

-- It can be the first of these shapes, or of the rules that stand in front of them.
pub data CanStart (rules : ℕ → Parts) (s : Front) : Parts → Type 0 where
  is-class : {c : ℕ} {a : Parts} → s ≡ of_class c → CanStart rules s (one c a)
  is-rule : {r : ℕ} {a : Parts} → s ≡ of_rule r → CanStart rules s (rule r a)
  from-rule : {r : ℕ} {a : Parts} → CanStart rules s (rules r) → CanStart rules s (rule r a)
  after-rule : {r : ℕ} {a : Parts} → CanBeEmpty rules (rules r) → CanStart rules s a → CanStart rules s (rule r a)
  from-choice : {i : ℕ} {x y a : Parts} → IsAt i y x → CanStart rules s y → CanStart rules s (choice x a)
  after-choice : {i : ℕ} {x y a : Parts} → IsAt i y x → CanBeEmpty rules y → CanStart rules s a
      → CanStart rules s (choice x a)
  from-opt : {x a : Parts} → CanStart rules s x → CanStart rules s (opt x a)
  after-opt : {x a : Parts} → CanStart rules s a → CanStart rules s (opt x a)
  from-many : {x a : Parts} → CanStart rules s x → CanStart rules s (many x a)
  after-many : {x a : Parts} → CanStart rules s a → CanStart rules s (many x a)

-- a leaf of the class can begin these shapes
abbrev pub CanBegin : (ℕ → Parts) → ℕ → Parts → Type 0
CanBegin rules c a = CanStart rules (of_class c) a

-- A rule leads back to itself before any leaf.
abbrev pub IsLeftRecursive : (ℕ → Parts) → ℕ → Type 0
IsLeftRecursive rules r = CanStart rules (of_rule r) (rules r)

-- the next of these leaves can begin the shapes
abbrev pub Goes : (ℕ → Parts) → (ℕ → ℕ) → Parts → List ℕ → Type 0
Goes rules class a [] = ⊥
Goes rules class a (l ∷ ls) = CanBegin rules (class l) a
