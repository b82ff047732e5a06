-- The recipes that do work themselves: their names, and the options that each takes.
use Rattle.std.specs.Prelude.{ℕ, Bool, true, false, List, [], ◌∷◌, Option, Some, None, codes, if◌then◌else◌}
use Rattle.std.specs.Str.{bytes_eq}
use Rattle.recipe_yaml.specs.declared.leaf_name.LeafName.{LeafName}
use Rattle.recipe_yaml.specs.declared.leaf_name.LeafName.TheVariants as leaf
use Rattle.recipe_yaml.specs.declared.leaf_name.OptionName.{OptionName}
use Rattle.recipe_yaml.specs.declared.leaf_name.OptionName.TheVariants as name
use Rattle.recipe_yaml.specs.declared.leaf_name.ValueKind.{ValueKind}
use Rattle.recipe_yaml.specs.declared.leaf_name.ValueKind.TheVariants as value
use Rattle.recipe_yaml.specs.declared.leaf_name.TakenOption.{TakenOption}

-- ---- names of recipes

unfoldable pub properties_leaf : List ℕ → Option LeafName
properties_leaf s =
    if bytes_eq s (codes "org.openrewrite.properties.ChangePropertyKey") then Some leaf.PropertiesChangePropertyKey
    else if bytes_eq s (codes "org.openrewrite.properties.ChangePropertyValue") then Some leaf.ChangePropertyValue
    else if bytes_eq s (codes "org.openrewrite.properties.DeleteProperty") then Some leaf.DeleteProperty
    else if bytes_eq s (codes "org.openrewrite.properties.AddProperty") then Some leaf.AddProperty
    else None

unfoldable pub yaml_leaf : List ℕ → Option LeafName
yaml_leaf s =
    if bytes_eq s (codes "org.openrewrite.yaml.ChangeKey") then Some leaf.ChangeKey
    else if bytes_eq s (codes "org.openrewrite.yaml.ChangeValue") then Some leaf.ChangeValue
    else if bytes_eq s (codes "org.openrewrite.yaml.DeleteKey") then Some leaf.DeleteKey
    else if bytes_eq s (codes "org.openrewrite.yaml.ChangePropertyKey") then Some leaf.YamlChangePropertyKey
    else None

unfoldable pub file_leaf : List ℕ → Option LeafName
file_leaf s =
    if bytes_eq s (codes "org.openrewrite.FindSourceFiles") then Some leaf.FindSourceFiles
    else if bytes_eq s (codes "org.openrewrite.DeleteSourceFiles") then Some leaf.DeleteSourceFiles
    else if bytes_eq s (codes "org.openrewrite.text.CreateTextFile") then Some leaf.CreateTextFile
    else None

-- the one of two that is there
abbrev pub either_leaf : Option LeafName → Option LeafName → Option LeafName
either_leaf (Some found) other = Some found
either_leaf None other = other

-- the leaf recipe of a name
unfoldable pub leaf_named : List ℕ → Option LeafName
leaf_named s = either_leaf (properties_leaf s) (either_leaf (yaml_leaf s) (file_leaf s))

-- a recipe that looks at all files before it makes or edits any
abbrev pub is_scanner : LeafName → Bool
is_scanner leaf.CreateTextFile = true
is_scanner _ = false

-- ---- options

unfoldable pub key_of : OptionName → List ℕ
key_of name.OldPropertyKey = codes "oldPropertyKey"
key_of name.NewPropertyKey = codes "newPropertyKey"
key_of name.PropertyKey = codes "propertyKey"
key_of name.NewValue = codes "newValue"
key_of name.OldValue = codes "oldValue"
key_of name.Property = codes "property"
key_of name.Value = codes "value"
key_of name.OldKeyPath = codes "oldKeyPath"
key_of name.NewKey = codes "newKey"
key_of name.KeyPath = codes "keyPath"
key_of name.FilePattern = codes "filePattern"
key_of name.FileContents = codes "fileContents"
key_of name.RelativeFileName = codes "relativeFileName"

-- an option that must be given, and one that may be
abbrev pub needs : OptionName → ValueKind → TakenOption
needs option kind = record { name = option; kind = kind; is_required = true }

abbrev pub may : OptionName → ValueKind → TakenOption
may option kind = record { name = option; kind = kind; is_required = false }

-- the options that a leaf recipe takes, and what their values are to be
unfoldable pub taken_by : LeafName → List TakenOption
taken_by leaf.PropertiesChangePropertyKey =
    needs name.OldPropertyKey value.Text ∷ needs name.NewPropertyKey value.Text ∷ []
taken_by leaf.ChangePropertyValue =
    needs name.PropertyKey value.Text ∷ needs name.NewValue value.Text ∷ may name.OldValue value.Text ∷ []
taken_by leaf.DeleteProperty = needs name.PropertyKey value.Text ∷ []
taken_by leaf.AddProperty = needs name.Property value.Text ∷ needs name.Value value.Text ∷ []
taken_by leaf.ChangeKey = needs name.OldKeyPath value.KeyPath ∷ needs name.NewKey value.YamlScalar ∷ []
taken_by leaf.ChangeValue = needs name.KeyPath value.KeyPath ∷ needs name.Value value.YamlScalar ∷ []
taken_by leaf.DeleteKey = needs name.KeyPath value.KeyPath ∷ []
taken_by leaf.YamlChangePropertyKey =
    needs name.OldPropertyKey value.Text ∷ needs name.NewPropertyKey value.YamlScalar ∷ []
taken_by leaf.FindSourceFiles = needs name.FilePattern value.Text ∷ []
taken_by leaf.DeleteSourceFiles = needs name.FilePattern value.Text ∷ []
taken_by leaf.CreateTextFile = needs name.FileContents value.Text ∷ needs name.RelativeFileName value.SourceFile ∷ []
