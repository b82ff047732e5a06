-- Greedy derivation: what shapes derive. Leaves are known by their numbers; each has a class.
use Rattle.std.specs.Prelude.{◌≡◌, ℕ, List, [], ◌∷◌}
use Rattle.rw_base.specs.Trees.{none, leaf, node, Forest, beside}
use Rattle.rw_grammar.specs.Parts.{Parts, end, one, rule, choice, opt, many, IsAt}
use Rattle.rw_grammar.specs.Begins.{CanBeEmpty, Goes}

-- the node of a rule with these trees; or its only tree, where that is a node
abbrev pub wrapped : ℕ → Forest → Forest
wrapped r (node u k kids none) = node u k kids none
wrapped r f = node tt r f none

-- The shapes derive the leaves up to the rest, which begins with the leaf that follows.
pub data Derives (rules : ℕ → Parts) (class : ℕ → ℕ) : Parts → List ℕ → List ℕ → Forest → Type 0 where
  by-end : {ls : List ℕ} → Derives rules class end ls ls none
  by-one : {c l : ℕ} {a : Parts} {ls rest : List ℕ} {f : Forest} → class l ≡ c → Derives rules class a ls rest f
      → Derives rules class (one c a) (l ∷ ls) rest (leaf l f)
  by-rule : {r : ℕ} {a : Parts} {ls mid rest : List ℕ} {f g t : Forest} →
      Derives rules class (rules r) ls mid f → Derives rules class a mid rest g → t ≡ beside (wrapped r f) g
      → Derives rules class (rule r a) ls rest t
  -- the alternative that the next leaf can begin, or where it begins none, the empty one
  by-choice : {i : ℕ} {x y a : Parts} {ls mid rest : List ℕ} {f g t : Forest} → IsAt i y x → Goes rules class y ls →
      Derives rules class y ls mid f → Derives rules class a mid rest g → t ≡ beside f g
      → Derives rules class (choice x a) ls rest t
  by-empty : {i : ℕ} {x y a : Parts} {ls mid rest : List ℕ} {f g t : Forest}
      → ((j : ℕ) (z : Parts) → IsAt j z x → Goes rules class z ls → ⊥) → IsAt i y x → CanBeEmpty rules y →
      Derives rules class y ls mid f → Derives rules class a mid rest g → t ≡ beside f g
      → Derives rules class (choice x a) ls rest t
  -- an option is taken, and a repetition goes on, exactly where the next leaf can begin it
  by-opt : {x a : Parts} {ls mid rest : List ℕ} {f g t : Forest} → Goes rules class x ls →
      Derives rules class x ls mid f → Derives rules class a mid rest g → t ≡ beside f g
      → Derives rules class (opt x a) ls rest t
  by-no-opt : {x a : Parts} {ls rest : List ℕ} {t : Forest} → (Goes rules class x ls → ⊥)
      → Derives rules class a ls rest t → Derives rules class (opt x a) ls rest t
  by-more : {x a : Parts} {ls mid rest : List ℕ} {f g t : Forest} → Goes rules class x ls →
      Derives rules class x ls mid f → Derives rules class (many x a) mid rest g → t ≡ beside f g
      → Derives rules class (many x a) ls rest t
  by-no-more : {x a : Parts} {ls rest : List ℕ} {t : Forest} → (Goes rules class x ls → ⊥)
      → Derives rules class a ls rest t → Derives rules class (many x a) ls rest t

-- the tree of a rule over all of the leaves
pub record DerivesTree (rules : ℕ → Parts) (class : ℕ → ℕ) (start : ℕ) (ls : List ℕ) (t : Forest) : Type 0 where
  pub trees : Forest
  pub derived : Derives rules class (rules start) ls [] trees
  pub is : t ≡ wrapped start trees
