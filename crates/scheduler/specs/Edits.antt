-- What each leaf recipe does to a file, what its scanner finds in it, and which files it makes.
use Rattle.std.specs.Prelude.{ℕ, List, []}
use Rattle.rw_host.specs.declared.file.FileEdit.{FileEdit}
use Rattle.rw_host.specs.declared.file.FileEdit.TheVariants as edit
use Rattle.rw_host.specs.declared.file.SourceFile.{SourceFile}
use Rattle.kept_files.specs.States.{State, file_at}
use Rattle.conf_recipes.specs.PropertiesRecipes.{properties_key_changed, property_value_changed}
use Rattle.conf_recipes.specs.PropertiesRecipes.{property_deleted, property_added}
use Rattle.conf_recipes.specs.YamlRecipes.{key_changed, value_changed, key_deleted, yaml_property_key_changed}
use Rattle.conf_recipes.specs.FileRecipes.{file_found, file_deleted, text_files}
use Rattle.recipe_yaml.specs.declared.plans.LeafRecipe.{LeafRecipe}
use Rattle.recipe_yaml.specs.declared.plans.LeafRecipe.TheVariants as leaf

-- what a leaf recipe does to the file of a number, by the state and by what its scanner found
unfoldable pub edits : LeafRecipe → State → ℕ → List (List ℕ) → FileEdit
edits (leaf.PropertiesChangePropertyKey o) files n value = properties_key_changed o (file_at files n)
edits (leaf.ChangePropertyValue o) files n value = property_value_changed o (file_at files n)
edits (leaf.DeleteProperty o) files n value = property_deleted o (file_at files n)
edits (leaf.AddProperty o) files n value = property_added o (file_at files n)
edits (leaf.ChangeKey o) files n value = key_changed o (file_at files n)
edits (leaf.ChangeValue o) files n value = value_changed o (file_at files n)
edits (leaf.DeleteKey o) files n value = key_deleted o (file_at files n)
edits (leaf.YamlChangePropertyKey o) files n value = yaml_property_key_changed o (file_at files n)
edits (leaf.FindSourceFiles o) files n value = file_found o (file_at files n)
edits (leaf.DeleteSourceFiles o) files n value = file_deleted o (file_at files n)
edits (leaf.CreateTextFile o) files n value = edit.Keep

-- What a scanner has found once it has seen the file of a number, and before. No leaf recipe so far looks for anything.
unfoldable pub scan : LeafRecipe → State → ℕ → List (List ℕ) → List (List ℕ)
scan _ files n value = value

-- the files that a leaf recipe makes, by what its scanner found
unfoldable pub generated : LeafRecipe → List (List ℕ) → List SourceFile
generated (leaf.CreateTextFile o) value = text_files o
generated _ value = []
