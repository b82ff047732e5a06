-- What the small functions give that read key paths.
use Rattle.std.specs.Prelude.{◌≡◌, ℕ, ◌+◌, ◌≤◌, ◌==◌, if◌then◌else◌, List, [], ◌∷◌, ◌++◌, length, drop}
use Rattle.rw_base.specs.Fronts.{Form}
use Rattle.yaml_tree.specs.declared.key_path.PathStep.{PathStep}
use Rattle.yaml_tree.specs.declared.key_path.PathStep.TheVariants.{Name, AnyName, AnyItem}
use Rattle.yaml_tree.specs.KeyPaths.{in_name, AreNames, IsKeyPath, IsWrongAt}

-- how many bytes of names a text begins with, and how long the name is with which it begins, 0 where none does
abbrev pub run_size : List ℕ → ℕ
run_size [] = 0
run_size (b ∷ s) = if in_name b then run_size s + 1 else 0

abbrev pub name_size : List ℕ → ℕ
name_size [] = 0
name_size (b ∷ s) = if b == 42 then 1 else run_size (b ∷ s)

-- the step of a name
abbrev pub step_of : List ℕ → PathStep
step_of [] = Name []
step_of (b ∷ s) = if b == 42 then AnyName else Name (b ∷ s)

-- how many bytes stand before the first name: `$.`, `$` or none
abbrev pub start_size : List ℕ → ℕ
start_size [] = 0
start_size (a ∷ []) = if a == 36 then 1 else 0
start_size (a ∷ b ∷ s) = if a == 36 then (if b == 46 then 2 else 1) else 0

-- how many bytes two texts begin with alike
abbrev pub common : List ℕ → List ℕ → ℕ
common [] s = 0
common (a ∷ w) [] = 0
common (a ∷ w) (b ∷ s) = if a == b then common w s + 1 else 0

-- what can stand behind a name
pub data IsBehind (steps : List PathStep) (s : List ℕ) : Type 0 where
  ended : steps ≡ [] → s ≡ [] → IsBehind steps s
  dot : (rest : List ℕ) → AreNames steps rest → s ≡ 46 ∷ rest → IsBehind steps s
  items : (others : List PathStep) (rest : List ℕ) → AreNames others rest → steps ≡ AnyItem ∷ others
      → s ≡ 91 ∷ 42 ∷ 93 ∷ 46 ∷ rest → IsBehind steps s

-- Up to this byte these steps are read, and what is left is of this form: what it gives, and where it is wrong, is that
-- of the whole text.
pub record GoesOn (left : Form (List PathStep)) (s : List ℕ) (steps : List PathStep) (at : ℕ) : Type 0 where
  pub inside : at ≤ length s
  pub path : (more : List PathStep) → left more (drop at s) → IsKeyPath (steps ++ more) s
  pub fault : (n : ℕ) → IsWrongAt left (drop at s) n → IsWrongAt IsKeyPath s (at + n)
