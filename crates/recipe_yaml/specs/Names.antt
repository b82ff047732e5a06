-- The names of the recipes that this project defines itself.
use Rattle.std.specs.Prelude.{ℕ, Bool, List, [], ◌∷◌, codes}
use Rattle.std.specs.List.{list_any}
use Rattle.std.specs.Str.{bytes_eq}

unfoldable pub known_names : List (List ℕ)
known_names =
    codes "org.openrewrite.properties.ChangePropertyKey"
    ∷ codes "org.openrewrite.properties.ChangePropertyValue"
    ∷ codes "org.openrewrite.properties.DeleteProperty"
    ∷ codes "org.openrewrite.properties.AddProperty"
    ∷ codes "org.openrewrite.yaml.ChangeKey"
    ∷ codes "org.openrewrite.yaml.ChangeValue"
    ∷ codes "org.openrewrite.yaml.DeleteKey"
    ∷ codes "org.openrewrite.yaml.ChangePropertyKey"
    ∷ codes "org.openrewrite.FindSourceFiles"
    ∷ codes "org.openrewrite.DeleteSourceFiles"
    ∷ codes "org.openrewrite.text.CreateTextFile"
    ∷ []

-- whether a name is one of them
unfoldable pub is_known : List ℕ → Bool
is_known name = list_any (bytes_eq name) known_names
