-- What each leaf recipe does, by its kind.
use Rattle.std.proofs.Common.{◌≡◌, ℕ, List, [], sym, ap, ◌∙◌}
use Rattle.rw_host.specs.declared.file.FileEdit.{FileEdit}
use Rattle.rw_host.specs.declared.file.FileEdit.TheVariants as edit
use Rattle.rw_host.specs.declared.file.SourceFile.{SourceFile}
use Rattle.properties_tree.specs.declared.option.PropertiesChangePropertyKey.{PropertiesChangePropertyKey}
use Rattle.properties_tree.specs.declared.option.ChangePropertyValue.{ChangePropertyValue}
use Rattle.properties_tree.specs.declared.option.DeleteProperty.{DeleteProperty}
use Rattle.properties_tree.specs.declared.option.AddProperty.{AddProperty}
use Rattle.yaml_tree.specs.declared.option.ChangeKey.{ChangeKey}
use Rattle.yaml_tree.specs.declared.option.ChangeValue.{ChangeValue}
use Rattle.yaml_tree.specs.declared.option.DeleteKey.{DeleteKey}
use Rattle.yaml_tree.specs.declared.option.YamlChangePropertyKey.{YamlChangePropertyKey}
use Rattle.kept_files.specs.declared.option.FindSourceFiles.{FindSourceFiles}
use Rattle.kept_files.specs.declared.option.DeleteSourceFiles.{DeleteSourceFiles}
use Rattle.kept_files.specs.declared.option.CreateTextFile.{CreateTextFile}
use Rattle.kept_files.specs.States.{State, file_at}
use Rattle.conf_recipes.specs.PropertiesRecipes.{properties_key_changed, property_value_changed, property_deleted, property_added}
use Rattle.conf_recipes.specs.YamlRecipes.{key_changed, value_changed, key_deleted, yaml_property_key_changed}
use Rattle.conf_recipes.specs.FileRecipes.{file_found, file_deleted, text_files}
use Rattle.recipe_yaml.specs.declared.plans.LeafRecipe.{LeafRecipe}
use Rattle.recipe_yaml.specs.declared.plans.LeafRecipe.TheVariants as leaf
use Rattle.scheduler.specs.Edits.{edits, generated}

module _ (l : LeafRecipe) (files : State) (n : ℕ) (value : List (List ℕ)) (e : FileEdit) where
  pub is_properties_key_changed : (o : PropertiesChangePropertyKey) → l ≡ leaf.PropertiesChangePropertyKey o → e ≡ properties_key_changed o (file_at files n) → e ≡ edits l files n value
  unfolding edits
  is_properties_key_changed o is h = h ∙ ap (λ m. edits m files n value) (sym is)

  pub is_property_value_changed : (o : ChangePropertyValue) → l ≡ leaf.ChangePropertyValue o → e ≡ property_value_changed o (file_at files n) → e ≡ edits l files n value
  unfolding edits
  is_property_value_changed o is h = h ∙ ap (λ m. edits m files n value) (sym is)

  pub is_property_deleted : (o : DeleteProperty) → l ≡ leaf.DeleteProperty o → e ≡ property_deleted o (file_at files n) → e ≡ edits l files n value
  unfolding edits
  is_property_deleted o is h = h ∙ ap (λ m. edits m files n value) (sym is)

  pub is_property_added : (o : AddProperty) → l ≡ leaf.AddProperty o → e ≡ property_added o (file_at files n) → e ≡ edits l files n value
  unfolding edits
  is_property_added o is h = h ∙ ap (λ m. edits m files n value) (sym is)

  pub is_key_changed : (o : ChangeKey) → l ≡ leaf.ChangeKey o → e ≡ key_changed o (file_at files n) → e ≡ edits l files n value
  unfolding edits
  is_key_changed o is h = h ∙ ap (λ m. edits m files n value) (sym is)

  pub is_value_changed : (o : ChangeValue) → l ≡ leaf.ChangeValue o → e ≡ value_changed o (file_at files n) → e ≡ edits l files n value
  unfolding edits
  is_value_changed o is h = h ∙ ap (λ m. edits m files n value) (sym is)

  pub is_key_deleted : (o : DeleteKey) → l ≡ leaf.DeleteKey o → e ≡ key_deleted o (file_at files n) → e ≡ edits l files n value
  unfolding edits
  is_key_deleted o is h = h ∙ ap (λ m. edits m files n value) (sym is)

  pub is_yaml_property_key_changed : (o : YamlChangePropertyKey) → l ≡ leaf.YamlChangePropertyKey o → e ≡ yaml_property_key_changed o (file_at files n) → e ≡ edits l files n value
  unfolding edits
  is_yaml_property_key_changed o is h = h ∙ ap (λ m. edits m files n value) (sym is)

  pub is_file_found : (o : FindSourceFiles) → l ≡ leaf.FindSourceFiles o → e ≡ file_found o (file_at files n) → e ≡ edits l files n value
  unfolding edits
  is_file_found o is h = h ∙ ap (λ m. edits m files n value) (sym is)

  pub is_file_deleted : (o : DeleteSourceFiles) → l ≡ leaf.DeleteSourceFiles o → e ≡ file_deleted o (file_at files n) → e ≡ edits l files n value
  unfolding edits
  is_file_deleted o is h = h ∙ ap (λ m. edits m files n value) (sym is)

pub is_kept : (l : LeafRecipe) (files : State) (n : ℕ) (value : List (List ℕ)) (o : CreateTextFile) → l ≡ leaf.CreateTextFile o → edit.Keep ≡ edits l files n value
unfolding edits
is_kept l files n value o is = sym (ap (λ m. edits m files n value) is)

pub ruleset edits_by = (
  is_properties_key_changed,
  is_property_value_changed,
  is_property_deleted,
  is_property_added,
  is_key_changed,
  is_value_changed,
  is_key_deleted,
  is_yaml_property_key_changed,
  is_file_found,
  is_file_deleted,
  is_kept,
)

-- ---- the files that it makes

module _ (l : LeafRecipe) (value : List (List ℕ)) where
  pub makes_text : (o : CreateTextFile) (files : List SourceFile) → l ≡ leaf.CreateTextFile o → files ≡ text_files o → files ≡ generated l value
  unfolding generated
  makes_text o files is h = h ∙ ap (λ m. generated m value) (sym is)

  pub makes_none_properties_key_changed : (o : PropertiesChangePropertyKey) → l ≡ leaf.PropertiesChangePropertyKey o → [] ≡ generated l value
  unfolding generated
  makes_none_properties_key_changed o is = ap (λ m. generated m value) (sym is)

  pub makes_none_property_value_changed : (o : ChangePropertyValue) → l ≡ leaf.ChangePropertyValue o → [] ≡ generated l value
  unfolding generated
  makes_none_property_value_changed o is = ap (λ m. generated m value) (sym is)

  pub makes_none_property_deleted : (o : DeleteProperty) → l ≡ leaf.DeleteProperty o → [] ≡ generated l value
  unfolding generated
  makes_none_property_deleted o is = ap (λ m. generated m value) (sym is)

  pub makes_none_property_added : (o : AddProperty) → l ≡ leaf.AddProperty o → [] ≡ generated l value
  unfolding generated
  makes_none_property_added o is = ap (λ m. generated m value) (sym is)

  pub makes_none_key_changed : (o : ChangeKey) → l ≡ leaf.ChangeKey o → [] ≡ generated l value
  unfolding generated
  makes_none_key_changed o is = ap (λ m. generated m value) (sym is)

  pub makes_none_value_changed : (o : ChangeValue) → l ≡ leaf.ChangeValue o → [] ≡ generated l value
  unfolding generated
  makes_none_value_changed o is = ap (λ m. generated m value) (sym is)

  pub makes_none_key_deleted : (o : DeleteKey) → l ≡ leaf.DeleteKey o → [] ≡ generated l value
  unfolding generated
  makes_none_key_deleted o is = ap (λ m. generated m value) (sym is)

  pub makes_none_yaml_property_key_changed : (o : YamlChangePropertyKey) → l ≡ leaf.YamlChangePropertyKey o → [] ≡ generated l value
  unfolding generated
  makes_none_yaml_property_key_changed o is = ap (λ m. generated m value) (sym is)

  pub makes_none_file_found : (o : FindSourceFiles) → l ≡ leaf.FindSourceFiles o → [] ≡ generated l value
  unfolding generated
  makes_none_file_found o is = ap (λ m. generated m value) (sym is)

  pub makes_none_file_deleted : (o : DeleteSourceFiles) → l ≡ leaf.DeleteSourceFiles o → [] ≡ generated l value
  unfolding generated
  makes_none_file_deleted o is = ap (λ m. generated m value) (sym is)

pub ruleset generated_by = (
  makes_text,
  makes_none_properties_key_changed,
  makes_none_property_value_changed,
  makes_none_property_deleted,
  makes_none_property_added,
  makes_none_key_changed,
  makes_none_value_changed,
  makes_none_key_deleted,
  makes_none_yaml_property_key_changed,
  makes_none_file_found,
  makes_none_file_deleted,
)
