-- The edits that a leaf gives a file are of the tree that it is read as.
use Rattle.std.proofs.Common.{◌≡◌, ℕ, ◌*◌, ◌||◌, Bool, true, false, List, [], ◌∷◌, length, refl, sym, ap, subst}
use Rattle.std.proofs.Common.{◌∙◌, arith}
use Rattle.std.specs.Prelude.{if◌then◌else◌, Option, Some, None}
use Rattle.std.specs.Str.{bytes_eq}
use Rattle.rw_base.specs.Arena.{Arena, IsTree, end_of}
use Rattle.rw_base.specs.EditLaws.{gaps_new, gaps_old}
use Rattle.rw_base.specs.Laws.{leaf_edits_are_edits}
use Rattle.rw_base.specs.NewText.{AreEdits, new_text}
use Rattle.rw_base.specs.declared.edit.Edit.{Edit}
use Rattle.rw_host.specs.declared.file.FileEdit.TheVariants as edit
use Rattle.properties_tree.specs.Entries.{properties_of}
use Rattle.properties_tree.specs.Layout.{tree_of}
use Rattle.properties_tree.proofs.InTree.{leaves_are}
use Rattle.properties_tree.specs.declared.option.PropertiesChangePropertyKey.{PropertiesChangePropertyKey}
use Rattle.properties_tree.specs.declared.option.DeleteProperty.{DeleteProperty}
use Rattle.properties_tree.specs.declared.option.ChangePropertyValue.{ChangePropertyValue}
use Rattle.properties_tree.specs.declared.option.AddProperty.{AddProperty}
use Rattle.yaml_tree.specs.declared.option.ChangeKey.{ChangeKey}
use Rattle.yaml_tree.specs.declared.option.ChangeValue.{ChangeValue}
use Rattle.yaml_tree.specs.Found.{found_in}
use Rattle.kept_files.specs.FileEdits.{edited, text_by, with_edits}
use Rattle.kept_files.specs.States.{EndsAt, IsKept, State, file_at, properties_in, tree_in, yaml_in}
use Rattle.kept_files.specs.declared.file.KeptFile.{KeptFile}
use Rattle.kept_files.specs.declared.option.FindSourceFiles.{FindSourceFiles}
use Rattle.kept_files.specs.declared.option.DeleteSourceFiles.{DeleteSourceFiles}
use Rattle.kept_files.specs.declared.reading.Reading.{Reading}
use Rattle.kept_files.specs.declared.reading.Reading.TheVariants as reading
use Rattle.kept_files.proofs.StateLaws.{tree_is}
use Rattle.conf_recipes.specs.PathPatterns.{path_matches}
use Rattle.conf_recipes.specs.PropertiesEdits.{edits_of}
use Rattle.conf_recipes.specs.PropertiesRecipes.{edited_by, properties_key_changed, property_deleted, deletes_of}
use Rattle.conf_recipes.specs.PropertiesRecipes.{property_value_changed, values_of, property_added, adds_of, has_entry}
use Rattle.conf_recipes.specs.PropertiesRecipes.{added_text, is_unfinished, text_edit}
use Rattle.conf_recipes.specs.YamlRecipes.{in_yaml, key_changed, keys_changed, value_changed, values_changed}
use Rattle.conf_recipes.specs.YamlRecipes.{key_deleted, keys_deleted, yaml_property_key_changed, joined_keys_changed}
use Rattle.conf_recipes.specs.YamlDeletions.{is_among}
use Rattle.conf_recipes.specs.FileRecipes.{file_deleted, file_found}
use Rattle.conf_recipes.proofs.Added.{none_fit, one_fits}
use Rattle.conf_recipes.proofs.Deleted.{deletes_fit}
use Rattle.conf_recipes.proofs.KeyEdits.{are_leaf_edits}
use Rattle.conf_recipes.proofs.ValueEdits as value_edits
use Rattle.conf_recipes.proofs.YamlKeys.{keys_fit}
use Rattle.conf_recipes.proofs.YamlValues as yaml_values
use Rattle.conf_recipes.proofs.YamlJoinedKeys.{joined_keys_fit}
use Rattle.conf_recipes.proofs.YamlDeletions.{keys_deleted_fit}
use Rattle.recipe_yaml.specs.declared.plans.LeafRecipe.{LeafRecipe}
use Rattle.recipe_yaml.specs.declared.plans.LeafRecipe.TheVariants as leaf
use Rattle.scheduler.specs.Edits.{edits}
use Rattle.scheduler.specs.Touched.{IsInRanges}

-- a file has a tree and bytes, and these edits are of the tree
pub record IsFitting (f : KeptFile) (es : List Edit) : Type 0 where
  pub tree : Arena
  pub bytes : List ℕ
  pub read_as : tree_in f.reading ≡ Some tree
  pub had : f.bytes ≡ Some bytes
  pub fit : IsKept f → IsTree tree → AreEdits tree es

-- ---- edits that are given

given : (all es : List Edit) (to : Option (List ℕ)) → with_edits all ≡ edit.Edit es to → all ≡ es
given [] es to e = absurd (cc)
given (x ∷ xs) es to e = cc

module _ (es : List Edit) (to : Option (List ℕ)) where
  -- of a properties file
  module _ (made : List ℕ → List Edit)
      (fits : (t : Arena) (bytes : List ℕ) → t ≡ tree_of bytes → AreEdits t (made bytes)) where
    in_properties : (path : List ℕ) (b : Option (List ℕ)) (r : Reading)
        → edited_by made (properties_in (record { path = path; bytes = b; reading = r })) ≡ edit.Edit es to
        → IsFitting (record { path = path; bytes = b; reading = r }) es
    unfolding properties_in
    in_properties path (Some bytes) (reading.Properties t) e =
        let f : KeptFile = record { path = path; bytes = Some bytes; reading = reading.Properties t } in
        record {
          tree = t;
          bytes = bytes;
          read_as = refl;
          had = refl;
          fit =
              λ kept tree. subst (AreEdits t) (given (made bytes) es to e)
              (fits t bytes (tree_is f t bytes kept refl refl));
        }
    in_properties path None (reading.Properties t) e = absurd (cc)
    in_properties path b (reading.Java t) e = absurd (cc)
    in_properties path b (reading.Yaml t) e = absurd (cc)
    in_properties path b (reading.Refused x) e = absurd (cc)
    in_properties path b reading.Unread e = absurd (cc)

    properties_fit : (f : KeptFile) → edited_by made (properties_in f) ≡ edit.Edit es to → IsFitting f es
    properties_fit f e = in_properties f.path f.bytes f.reading e

  -- of a YAML file
  module _ (made : Arena → List ℕ → List Edit)
      (fits : (t : Arena) (bytes : List ℕ) → IsTree t → AreEdits t (made t bytes)) where
    in_yaml_file : (path : List ℕ) (b : Option (List ℕ)) (r : Reading)
        → in_yaml made (yaml_in (record { path = path; bytes = b; reading = r })) ≡ edit.Edit es to
        → IsFitting (record { path = path; bytes = b; reading = r }) es
    unfolding yaml_in
    in_yaml_file path (Some bytes) (reading.Yaml t) e = record {
      tree = t;
      bytes = bytes;
      read_as = refl;
      had = refl;
      fit =
          λ kept tree. subst (AreEdits t) (given (made t bytes) es to e) (fits t bytes tree);
    }
    in_yaml_file path None (reading.Yaml t) e = absurd (cc)
    in_yaml_file path b (reading.Java t) e = absurd (cc)
    in_yaml_file path b (reading.Properties t) e = absurd (cc)
    in_yaml_file path b (reading.Refused x) e = absurd (cc)
    in_yaml_file path b reading.Unread e = absurd (cc)

    yaml_fit : (f : KeptFile) → in_yaml made (yaml_in f) ≡ edit.Edit es to → IsFitting f es
    yaml_fit f e = in_yaml_file f.path f.bytes f.reading e

-- ---- what fits the tree of a properties file

module _ (t : Arena) (bytes : List ℕ) (same : t ≡ tree_of bytes) where
  keys_are_edits : (o : PropertiesChangePropertyKey) → AreEdits t (edits_of bytes o)
  keys_are_edits o =
      let entries = (properties_of bytes).entries in
      leaf_edits_are_edits t (edits_of bytes o)
      (are_leaf_edits o.old_property_key o.new_property_key (length t.leaves) 0 entries
      (omega (arith, leaves_are t bytes same)))

  deletes_are_edits : (o : DeleteProperty) → AreEdits t (deletes_of bytes o)
  deletes_are_edits o = deletes_fit (λ key. bytes_eq key o.property_key) t bytes (deletes_of bytes o) same refl

  values_are_edits : (o : ChangePropertyValue) → AreEdits t (values_of bytes o)
  values_are_edits o = value_edits.values_fit o t bytes (values_of bytes o) (length (properties_of bytes).entries) refl
      (leaves_are t bytes same) refl

  added_by : (o : AddProperty) (b : Bool)
      → AreEdits t (if b then [] else text_edit (4 * length (properties_of bytes).entries) (added_text bytes o) ∷ [])
  added_by o true = none_fit t
  added_by o false = one_fits t (4 * length (properties_of bytes).entries) (added_text bytes o)
      (omega (arith, leaves_are t bytes same))

  adds_are_edits : (o : AddProperty) → AreEdits t (adds_of bytes o)
  unfolding adds_of
  adds_are_edits o = added_by o (has_entry o.property (properties_of bytes).entries || is_unfinished bytes)

-- ---- what fits the tree of a YAML file

module _ (t : Arena) (bytes : List ℕ) (tree : IsTree t) where
  keys_by : (o : ChangeKey) (plain : Option (List ℕ)) → AreEdits t (keys_changed o t bytes plain)
  keys_by o None = none_fit t
  keys_by o (Some plain) =
      keys_fit t tree bytes plain o.new_key o.old_key_path (keys_changed o t bytes (Some plain)) refl

  values_by : (o : ChangeValue) (text : Option (List ℕ)) → AreEdits t (values_changed o t bytes text)
  values_by o None = none_fit t
  values_by o (Some text) =
      yaml_values.values_fit t text tree bytes o.key_path (values_changed o t bytes (Some text)) refl

-- ---- each leaf recipe

module _ (es : List Edit) (to : Option (List ℕ)) (f : KeptFile) where
  keys_in : (o : ChangeKey) (plain : Option (List ℕ))
      → in_yaml (λ t bytes. keys_changed o t bytes plain) (yaml_in f) ≡ edit.Edit es to → IsFitting f es
  keys_in o plain e =
      yaml_fit es to (λ t bytes. keys_changed o t bytes plain) (λ t bytes tree. keys_by t bytes tree o plain) f e

  values_in : (o : ChangeValue) (text : Option (List ℕ))
      → in_yaml (λ t bytes. values_changed o t bytes text) (yaml_in f) ≡ edit.Edit es to → IsFitting f es
  values_in o text e =
      yaml_fit es to (λ t bytes. values_changed o t bytes text) (λ t bytes tree. values_by t bytes tree o text) f e

  found_not : (o : FindSourceFiles) → file_found o f ≡ edit.Edit es to → ⊥
  unfolding file_found
  found_not o e = elim (path_matches o.file_pattern f.path) as
      (λ b. (if b then edit.Found else edit.Keep) ≡ edit.Edit es to → ⊥) [
        | true ↦ λ q. absurd (cc)
        | false ↦ λ q. absurd (cc)
      ] e

  deleted_not : (o : DeleteSourceFiles) → file_deleted o f ≡ edit.Edit es to → ⊥
  unfolding file_deleted
  deleted_not o e = elim (path_matches o.file_pattern f.path) as
      (λ b. (if b then edit.Remove else edit.Keep) ≡ edit.Edit es to → ⊥) [
        | true ↦ λ q. absurd (cc)
        | false ↦ λ q. absurd (cc)
      ] e

pub edits_fit : (recipe : LeafRecipe) (files : State) (n : ℕ) (value : List (List ℕ)) (es : List Edit)
    (to : Option (List ℕ)) → edits recipe files n value ≡ edit.Edit es to → IsFitting (file_at files n) es
unfolding edits properties_key_changed property_value_changed property_deleted property_added key_changed value_changed key_deleted yaml_property_key_changed
edits_fit (leaf.PropertiesChangePropertyKey o) files n value es to e =
    properties_fit es to (λ bytes. edits_of bytes o) (λ t bytes same. keys_are_edits t bytes same o) (file_at files n) e
edits_fit (leaf.ChangePropertyValue o) files n value es to e =
    properties_fit es to (λ bytes. values_of bytes o) (λ t bytes same. values_are_edits t bytes same o)
    (file_at files n) e
edits_fit (leaf.DeleteProperty o) files n value es to e =
    properties_fit es to (λ bytes. deletes_of bytes o) (λ t bytes same. deletes_are_edits t bytes same o)
    (file_at files n) e
edits_fit (leaf.AddProperty o) files n value es to e =
    properties_fit es to (λ bytes. adds_of bytes o) (λ t bytes same. adds_are_edits t bytes same o) (file_at files n) e
edits_fit (leaf.ChangeKey o) files n value es to e =
    keys_in es to (file_at files n) o _ e
edits_fit (leaf.ChangeValue o) files n value es to e =
    values_in es to (file_at files n) o _ e
edits_fit (leaf.DeleteKey o) files n value es to e =
    yaml_fit es to (keys_deleted o)
    (λ t bytes tree. keys_deleted_fit t tree bytes (is_among (found_in bytes o.key_path t)) (keys_deleted o t bytes) refl)
    (file_at files n) e
edits_fit (leaf.YamlChangePropertyKey o) files n value es to e =
    yaml_fit es to (joined_keys_changed o)
    (λ t bytes tree. joined_keys_fit t tree bytes o (joined_keys_changed o t bytes) refl) (file_at files n) e
edits_fit (leaf.FindSourceFiles o) files n value es to e = absurd (found_not es to (file_at files n) o e)
edits_fit (leaf.DeleteSourceFiles o) files n value es to e = absurd (deleted_not es to (file_at files n) o e)
edits_fit (leaf.CreateTextFile o) files n value es to e = absurd (cc)

-- ---- what comes of them

edited_is : (f : KeptFile) (t : Arena) (bytes : List ℕ) (es : List Edit) → tree_in f.reading ≡ Some t
    → f.bytes ≡ Some bytes → edited f es ≡ new_text t bytes es
unfolding edited
edited_is f t bytes es r b = ap (λ o. text_by o f.bytes es) r ∙ ap (λ o. text_by (Some t) o es) b

-- the bytes of a kept file end where its tree does
ends : (f : KeptFile) (t : Arena) (bytes : List ℕ) → IsKept f → tree_in f.reading ≡ Some t → f.bytes ≡ Some bytes
    → length bytes ≡ end_of t
ends f t bytes k r b = sym (subst (λ o. EndsAt o (Some bytes)) r (subst (λ o. EndsAt (tree_in f.reading) o) b k.whole))

pub in_ranges : (f g : KeptFile) (es : List Edit) → IsFitting f es → g.bytes ≡ Some (edited f es) → IsInRanges f es g
in_ranges f g es fits is = record {
  tree = fits.tree;
  bytes = fits.bytes;
  read_as = fits.read_as;
  had = fits.had;
  old_gaps =
      λ kept tree. gaps_old fits.tree tree fits.bytes es (fits.fit kept tree)
      (ends f fits.tree fits.bytes kept fits.read_as fits.had);
  new_gaps =
      λ kept tree. is ∙ ap Some (edited_is f fits.tree fits.bytes es fits.read_as fits.had
      ∙ sym (gaps_new fits.tree tree fits.bytes es (fits.fit kept tree)));
}
