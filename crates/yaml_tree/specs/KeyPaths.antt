-- Key paths: texts that name entries of YAML files.
--
--     path  = ["$" ["."]] names
--     names = name | name "." names | name "[*]." names
--     name  = "*" | one or more bytes other than . [ ] * $, space and tab
use Rattle.std.specs.Prelude.{◌≡◌, ℕ, ◌<◌, ◌==◌, ◌||◌, Bool, not, true, List, [], ◌∷◌, ◌++◌, length}
use Rattle.std.specs.List.{list_all}
use Rattle.rw_base.specs.Fronts.{Form, IsLongestFront}
use Rattle.yaml_tree.specs.declared.key_path.PathStep.{PathStep}
use Rattle.yaml_tree.specs.declared.key_path.PathStep.TheVariants.{Name, AnyName, AnyItem}

-- . [ ] * $ space tab
unfoldable pub ends_name : ℕ → Bool
ends_name b = (b == 46) || (b == 91) || (b == 93) || (b == 42) || (b == 36) || (b == 32) || (b == 9)

abbrev pub in_name : ℕ → Bool
in_name b = not (ends_name b)

-- the text of a name: of any name `*`, of a given one the name itself
abbrev pub IsName : PathStep → List ℕ → Type 0
IsName (Name name) s = (s ≡ name) × (0 < length s) × (list_all in_name s ≡ true)
IsName AnyName s = s ≡ 42 ∷ []
IsName AnyItem s = ⊥

-- Names one behind another, each but the last with a dot behind it, and perhaps with `[*]` before that dot.
pub data AreNames : List PathStep → List ℕ → Type 0 where
  last : {steps : List PathStep} {s : List ℕ} (step : PathStep) → IsName step s
      → steps ≡ step ∷ [] → AreNames steps s
  dotted : {steps : List PathStep} {s : List ℕ} (step : PathStep) (name : List ℕ) (others : List PathStep)
      (rest : List ℕ) → IsName step name → AreNames others rest
      → steps ≡ step ∷ others → s ≡ name ++ 46 ∷ rest → AreNames steps s
  over_items : {steps : List PathStep} {s : List ℕ} (step : PathStep) (name : List ℕ) (others : List PathStep)
      (rest : List ℕ) → IsName step name → AreNames others rest
      → steps ≡ step ∷ AnyItem ∷ others → s ≡ name ++ 91 ∷ 42 ∷ 93 ∷ 46 ∷ rest → AreNames steps s

-- the text spells a key path of these steps
pub data IsKeyPath (steps : List PathStep) (s : List ℕ) : Type 0 where
  plain : AreNames steps s → IsKeyPath steps s
  rooted : (names : List ℕ) → s ≡ 36 ∷ names → AreNames steps names → IsKeyPath steps s
  rooted_dot : (names : List ℕ) → s ≡ 36 ∷ 46 ∷ names → AreNames steps names → IsKeyPath steps s

-- A text that isn't of a form, and the byte behind its longest front that begins some text of it.
pub record IsWrongAt {X : Type 0} (form : Form X) (s : List ℕ) (n : ℕ) : Type 0 where
  pub wrong : (x : X) → form x s → ⊥
  pub longest : IsLongestFront form s n

-- A text spells one key path at most.
abbrev pub KeyPathsAreOne : Type 0
KeyPathsAreOne = (s : List ℕ) (a b : List PathStep) → IsKeyPath a s → IsKeyPath b s → a ≡ b
