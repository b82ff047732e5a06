-- What the recipes do to a file, by cases of what it reads as.
use Rattle.std.proofs.Common.{◌≡◌, ℕ, List, [], ◌∷◌, length, true, false, Option, Some, None, refl, sym, ap, subst, ◌∙◌}
use Rattle.rw_base.specs.Arena.{Arena}
use Rattle.rw_base.specs.NewText.{AreEdits}
use Rattle.rw_base.specs.declared.edit.Edit.{Edit}
use Rattle.rw_host.specs.declared.file.FileEdit.TheVariants as edit
use Rattle.properties_tree.specs.declared.option.PropertiesChangePropertyKey.{PropertiesChangePropertyKey}
use Rattle.properties_tree.specs.declared.option.DeleteProperty.{DeleteProperty}
use Rattle.properties_tree.specs.declared.option.AddProperty.{AddProperty}
use Rattle.properties_tree.specs.declared.option.ChangePropertyValue.{ChangePropertyValue}
use Rattle.properties_tree.specs.Entries.{properties_of}
use Rattle.kept_files.specs.FileEdits.{with_edits, FitsFile, FitTree}
use Rattle.kept_files.specs.States.{properties_in, tree_in}
use Rattle.kept_files.specs.declared.file.KeptFile.{KeptFile}
use Rattle.conf_recipes.specs.PropertiesEdits.{edits_of}
use Rattle.conf_recipes.specs.PropertiesRecipes.{edited_by, properties_key_changed, property_deleted, deletes_of, property_value_changed, values_of, property_added, adds_of, has_entry}
use Rattle.conf_recipes.proofs.Lacking.{no_key_edits, no_deletes, no_value_edits, has_none}

-- ---- no edit is none

pub none_is_kept : (es : List Edit) → es ≡ [] → edit.Keep ≡ with_edits es
none_is_kept es e = ap with_edits (sym e)

pub some_are_edits : (es : List Edit) → (length es ≡ 0 → ⊥) → edit.Edit es None ≡ with_edits es
some_are_edits [] some = absurd (some refl)
some_are_edits (e ∷ es) some = refl

pub ruleset no_edit_or_some = (none_is_kept, some_are_edits)

-- ---- edits of the tree that was read fit the file

fit_edits : (f : KeptFile) (es : List Edit) → FitTree (tree_in f.reading) es → FitsFile f (with_edits es)
fit_edits f [] h = tt
fit_edits f (e ∷ es) h = h

pub edits_fit : (f : KeptFile) (t : Arena) (es : List Edit) → tree_in f.reading ≡ Some t → AreEdits t es → FitsFile f (with_edits es)
edits_fit f t es e h = fit_edits f es (subst (λ o. FitTree o es) (sym e) h)

some_by : (edits_for : List ℕ → List Edit) (p : Option (Arena × List ℕ)) (t : Arena) (bytes : List ℕ) (es : List Edit) → p ≡ Some (t, bytes) → es ≡ edits_for bytes → with_edits es ≡ edited_by edits_for p
some_by edits_for p t bytes es e is = ap with_edits is ∙ ap (edited_by edits_for) (sym e)

none_by : (edits_for : List ℕ → List Edit) (p : Option (Arena × List ℕ)) → p ≡ None → edit.Keep ≡ edited_by edits_for p
none_by edits_for p e = ap (edited_by edits_for) (sym e)

-- ---- ChangePropertyKey

pub key_changed : (o : PropertiesChangePropertyKey) (f : KeptFile) (t : Arena) (bytes : List ℕ) (es : List Edit) → properties_in f ≡ Some (t, bytes) → es ≡ edits_of bytes o → with_edits es ≡ properties_key_changed o f
unfolding properties_key_changed
key_changed o f t bytes es e is = some_by (λ b. edits_of b o) (properties_in f) t bytes es e is

pub no_key_changed : (o : PropertiesChangePropertyKey) (f : KeptFile) → properties_in f ≡ None → edit.Keep ≡ properties_key_changed o f
unfolding properties_key_changed
no_key_changed o f e = none_by (λ b. edits_of b o) (properties_in f) e

pub no_key_to_change : (o : PropertiesChangePropertyKey) (f : KeptFile) (t : Arena) (bytes : List ℕ)
    → properties_in f ≡ Some (t, bytes) → has_entry o.old_property_key (properties_of bytes).entries ≡ false
    → edit.Keep ≡ properties_key_changed o f
unfolding properties_key_changed
no_key_to_change o f t bytes e none =
    some_by (λ b. edits_of b o) (properties_in f) t bytes [] e
    (sym (no_key_edits o.old_property_key o.new_property_key 0 (properties_of bytes).entries none))

pub ruleset keys_changed = (key_changed, no_key_changed, no_key_to_change, edits_fit)

-- ---- DeleteProperty

pub deleted : (o : DeleteProperty) (f : KeptFile) (t : Arena) (bytes : List ℕ) (es : List Edit) → properties_in f ≡ Some (t, bytes) → es ≡ deletes_of bytes o → with_edits es ≡ property_deleted o f
unfolding property_deleted
deleted o f t bytes es e is = some_by (λ b. deletes_of b o) (properties_in f) t bytes es e is

pub not_deleted : (o : DeleteProperty) (f : KeptFile) → properties_in f ≡ None → edit.Keep ≡ property_deleted o f
unfolding property_deleted
not_deleted o f e = none_by (λ b. deletes_of b o) (properties_in f) e

pub no_key_to_delete : (o : DeleteProperty) (f : KeptFile) (t : Arena) (bytes : List ℕ)
    → properties_in f ≡ Some (t, bytes) → has_entry o.property_key (properties_of bytes).entries ≡ false
    → edit.Keep ≡ property_deleted o f
unfolding property_deleted
no_key_to_delete o f t bytes e none =
    some_by (λ b. deletes_of b o) (properties_in f) t bytes [] e
    (sym (no_deletes o.property_key 0 (properties_of bytes).entries none))

pub ruleset properties_deleted = (deleted, not_deleted, no_key_to_delete, edits_fit)

-- ---- ChangePropertyValue

pub value_changed : (o : ChangePropertyValue) (f : KeptFile) (t : Arena) (bytes : List ℕ) (es : List Edit) → properties_in f ≡ Some (t, bytes) → es ≡ values_of bytes o → with_edits es ≡ property_value_changed o f
unfolding property_value_changed
value_changed o f t bytes es e is = some_by (λ b. values_of b o) (properties_in f) t bytes es e is

pub no_value_changed : (o : ChangePropertyValue) (f : KeptFile) → properties_in f ≡ None → edit.Keep ≡ property_value_changed o f
unfolding property_value_changed
no_value_changed o f e = none_by (λ b. values_of b o) (properties_in f) e

pub no_key_with_value : (o : ChangePropertyValue) (f : KeptFile) (t : Arena) (bytes : List ℕ)
    → properties_in f ≡ Some (t, bytes) → has_entry o.property_key (properties_of bytes).entries ≡ false
    → edit.Keep ≡ property_value_changed o f
unfolding property_value_changed
no_key_with_value o f t bytes e none =
    some_by (λ b. values_of b o) (properties_in f) t bytes [] e
    (sym (no_value_edits o 0 (properties_of bytes).entries none))

pub ruleset values_changed = (value_changed, no_value_changed, no_key_with_value, edits_fit)

-- ---- AddProperty

pub property_gets_in : (o : AddProperty) (f : KeptFile) (t : Arena) (bytes : List ℕ) (es : List Edit) → properties_in f ≡ Some (t, bytes) → es ≡ adds_of bytes o → with_edits es ≡ property_added o f
unfolding property_added
property_gets_in o f t bytes es e is = some_by (λ b. adds_of b o) (properties_in f) t bytes es e is

pub none_gets_in : (o : AddProperty) (f : KeptFile) → properties_in f ≡ None → edit.Keep ≡ property_added o f
unfolding property_added
none_gets_in o f e = none_by (λ b. adds_of b o) (properties_in f) e

pub key_is_there : (o : AddProperty) (f : KeptFile) (t : Arena) (bytes : List ℕ)
    → properties_in f ≡ Some (t, bytes) → has_entry o.property (properties_of bytes).entries ≡ true
    → edit.Keep ≡ property_added o f
unfolding property_added
key_is_there o f t bytes e some = some_by (λ b. adds_of b o) (properties_in f) t bytes [] e (sym (has_none bytes o some))

pub ruleset properties_added = (property_gets_in, none_gets_in, key_is_there, edits_fit)
