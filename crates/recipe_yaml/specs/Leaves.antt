-- Leaf recipes of entries: which entries are one, and what it is then asked.
use Rattle.std.specs.Prelude.{ℕ, Bool, true, not, ◌&&◌, List, [], ◌∷◌, slice_index_or, Option, Some, None}
use Rattle.std.specs.Prelude.{Result, Ok, Err}
use Rattle.std.specs.List.{find, list_any}
use Rattle.std.specs.Option.{is_some, option_map, unwrap_or}
use Rattle.std.specs.Str.{bytes_eq, is_utf8}
use Rattle.rw_base.specs.declared.place.Place.{Place}
use Rattle.rw_host.specs.Path.{is_path}
use Rattle.kept_files.specs.Kinds.{is_source}
use Rattle.yaml_texts.specs.Spelled.{spelled}
use Rattle.yaml_tree.specs.declared.key_path.PathStep.{PathStep}
use Rattle.recipe_yaml.specs.KeyPathTexts.{KeyPathsOf}
use Rattle.recipe_yaml.specs.Faults.{wrong_at, wrong_if, first_of, without}
use Rattle.recipe_yaml.specs.LeafNames.{leaf_named, key_of, taken_by}
use Rattle.recipe_yaml.specs.declared.book.WrittenEntry.{WrittenEntry}
use Rattle.recipe_yaml.specs.declared.book.WrittenOption.{WrittenOption}
use Rattle.recipe_yaml.specs.declared.fault.RecipeFault.{RecipeFault}
use Rattle.recipe_yaml.specs.declared.fault.RecipeFault.TheVariants.{Wrong}
use Rattle.recipe_yaml.specs.declared.leaf_name.LeafName.{LeafName}
use Rattle.recipe_yaml.specs.declared.leaf_name.LeafName.TheVariants as leaf
use Rattle.recipe_yaml.specs.declared.leaf_name.OptionName.{OptionName}
use Rattle.recipe_yaml.specs.declared.leaf_name.OptionName.TheVariants as name
use Rattle.recipe_yaml.specs.declared.leaf_name.ValueKind.{ValueKind}
use Rattle.recipe_yaml.specs.declared.leaf_name.ValueKind.TheVariants as value
use Rattle.recipe_yaml.specs.declared.leaf_name.TakenOption.{TakenOption}
use Rattle.recipe_yaml.specs.declared.plans.LeafRecipe.{LeafRecipe}
use Rattle.recipe_yaml.specs.declared.plans.LeafRecipe.TheVariants as recipe

-- ---- values of options

-- the text of an option that is no list
abbrev pub text_of : WrittenOption → List ℕ
text_of o = slice_index_or o.values 0 []

-- the text of the option of this name, where it is given
unfoldable pub given : OptionName → List WrittenOption → Option (List ℕ)
given option os = option_map text_of (find (λ o. bytes_eq o.key (key_of option)) os)

abbrev pub is_given : List WrittenOption → OptionName → Bool
is_given os option = is_some (given option os)

-- what a recipe takes under this key
unfoldable pub taken_as : List TakenOption → List ℕ → Option TakenOption
taken_as taken key = find (λ t. bytes_eq key (key_of t.name)) taken

module _ (paths : KeyPathsOf) where
  -- whether a text is what an option's value is to be
  unfoldable pub allows : ValueKind → List ℕ → Bool
  allows value.Text text = true
  allows value.KeyPath text = is_some (paths text)
  allows value.YamlScalar text = is_some (spelled text)
  allows value.SourceFile text = is_utf8 text && (is_path text && is_source text)

  -- a list is no value of any option here
  abbrev pub allowed_as : WrittenOption → Option TakenOption → Bool
  allowed_as o None = true
  allowed_as o (Some t) = not o.is_list && allows t.kind (text_of o)

  unfoldable pub is_refused : List TakenOption → WrittenOption → Bool
  is_refused taken o = not (allowed_as o (taken_as taken o.key))

-- ---- faults of options

abbrev pub is_missed : List WrittenOption → TakenOption → Bool
is_missed os t = t.is_required && not (is_given os t.name)

unfoldable pub is_missing : List TakenOption → List WrittenOption → Bool
is_missing taken os = list_any (is_missed os) taken

unfoldable pub is_unknown : List TakenOption → WrittenOption → Bool
is_unknown taken o = not (is_some (taken_as taken o.key))

-- where the first unknown key stands, and the first refused value
unfoldable pub unknown_place : List TakenOption → List WrittenOption → Option Place
unknown_place taken os = option_map (λ o. o.key_place) (find (is_unknown taken) os)

unfoldable pub refused_place : KeyPathsOf → List TakenOption → List WrittenOption → Option Place
refused_place paths taken os = option_map (λ o. o.value_place) (find (is_refused paths taken) os)

-- of an entry that names a recipe which takes these options: one is missing, unknown, or refused for its value
unfoldable pub options_fault : KeyPathsOf → List TakenOption → WrittenEntry → Option RecipeFault
options_fault paths taken e = first_of (
    wrong_if (is_missing taken e.options) 5 e.place
    ∷ wrong_at 6 (unknown_place taken e.options)
    ∷ wrong_at 7 (refused_place paths taken e.options)
    ∷ [])

-- ---- recipes with their options

abbrev pub text_given : OptionName → List WrittenOption → List ℕ
text_given option os = unwrap_or (given option os) []

abbrev pub path_given : KeyPathsOf → OptionName → List WrittenOption → List PathStep
path_given paths option os = unwrap_or (paths (text_given option os)) []

unfoldable pub with_options : KeyPathsOf → LeafName → List WrittenOption → LeafRecipe
with_options paths leaf.PropertiesChangePropertyKey os = recipe.PropertiesChangePropertyKey (record {
  old_property_key = text_given name.OldPropertyKey os;
  new_property_key = text_given name.NewPropertyKey os;
})
with_options paths leaf.ChangePropertyValue os = recipe.ChangePropertyValue (record {
  property_key = text_given name.PropertyKey os;
  new_value = text_given name.NewValue os;
  old_value = given name.OldValue os;
})
with_options paths leaf.DeleteProperty os = recipe.DeleteProperty (record {
  property_key = text_given name.PropertyKey os;
})
with_options paths leaf.AddProperty os = recipe.AddProperty (record {
  property = text_given name.Property os;
  value = text_given name.Value os;
})
with_options paths leaf.ChangeKey os = recipe.ChangeKey (record {
  old_key_path = path_given paths name.OldKeyPath os;
  new_key = text_given name.NewKey os;
})
with_options paths leaf.ChangeValue os = recipe.ChangeValue (record {
  key_path = path_given paths name.KeyPath os;
  value = text_given name.Value os;
})
with_options paths leaf.DeleteKey os = recipe.DeleteKey (record {
  key_path = path_given paths name.KeyPath os;
})
with_options paths leaf.YamlChangePropertyKey os = recipe.YamlChangePropertyKey (record {
  old_property_key = text_given name.OldPropertyKey os;
  new_property_key = text_given name.NewPropertyKey os;
})
with_options paths leaf.FindSourceFiles os = recipe.FindSourceFiles (record {
  file_pattern = text_given name.FilePattern os;
})
with_options paths leaf.DeleteSourceFiles os = recipe.DeleteSourceFiles (record {
  file_pattern = text_given name.FilePattern os;
})
with_options paths leaf.CreateTextFile os = recipe.CreateTextFile (record {
  file_contents = text_given name.FileContents os;
  relative_file_name = text_given name.RelativeFileName os;
})

-- the leaf recipe that an entry names, with the entry's options, or the first of the faults 4 to 7
unfoldable pub leaf_recipe : KeyPathsOf → WrittenEntry → Result LeafRecipe RecipeFault
leaf_recipe paths e = elim (leaf_named e.name) [
  | None ↦ Err (Wrong 4 (Some e.place))
  | Some leaf ↦ without (options_fault paths (taken_by leaf) e) (Ok (with_options paths leaf e.options))
]
