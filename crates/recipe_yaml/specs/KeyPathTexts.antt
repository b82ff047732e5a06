-- What texts read as as key paths.
use Rattle.std.specs.Prelude.{◌≡◌, ℕ, List, Option, Some, None}
use Rattle.yaml_tree.specs.declared.key_path.PathStep.{PathStep}
use Rattle.yaml_tree.specs.KeyPaths.{IsKeyPath}

-- for each text the steps of its key path, or none
abbrev pub KeyPathsOf : Type 0
KeyPathsOf = List ℕ → Option (List PathStep)

-- A text that spells a key path gives its steps, and any other text none. Since a text spells one key path at most,
-- there is such a function, and only one.
unfoldable pub AreKeyPaths : KeyPathsOf → Type 0
AreKeyPaths paths =
    ((text : List ℕ) (steps : List PathStep) → IsKeyPath steps text → paths text ≡ Some steps)
    × ((text : List ℕ) → ((steps : List PathStep) → IsKeyPath steps text → ⊥) → paths text ≡ None)
