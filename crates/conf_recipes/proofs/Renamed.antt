-- The new bytes of a file by a renaming of keys, which are made without edits.
use Rattle.std.proofs.Common.{◌≡◌, ℕ, ◌+◌, Bool, true, false, ◌||◌, List, [], ◌∷◌, Option, Some, None, refl, sym, ap, ◌∙◌}
use Rattle.std.specs.Prelude.{is_some, if◌then◌else◌}
use Rattle.std.specs.Str.{bytes_eq}
use Rattle.rw_base.specs.Arena.{Arena}
use Rattle.rw_base.specs.NewText.{new_text}
use Rattle.rw_base.specs.declared.edit.Edit.{Edit}
use Rattle.properties_tree.specs.declared.option.PropertiesChangePropertyKey.{PropertiesChangePropertyKey}
use Rattle.properties_tree.specs.Decoding.{key_text}
use Rattle.properties_tree.specs.Entries.{Entry, properties_of}
use Rattle.properties_tree.specs.Layout.{key_leaf_of, tree_of}
use Rattle.kept_files.specs.FileEdits.{edited, text_after, text_by, with_edits}
use Rattle.kept_files.specs.States.{properties_in, tree_in}
use Rattle.kept_files.specs.declared.file.KeptFile.{KeptFile}
use Rattle.conf_recipes.specs.PropertiesEdits.{IsRenamed, edits_of, key_edit, key_edits}
use Rattle.conf_recipes.specs.PropertiesRecipes.{edited_by, has_entry, properties_key_changed}
use Rattle.conf_recipes.proofs.Lacking.{no_key_edits}

-- ---- an entry with the key gets an edit

no_first : {A : Type 0} (x : A) (xs : List A) → x ∷ xs ≡ [] → ⊥
no_first x xs e = cc

by_first : (b c : Bool) (x : Edit) (more : List Edit) → (c ≡ true → more ≡ [] → ⊥) → (b || c) ≡ true
    → (if b then x ∷ more else more) ≡ [] → ⊥
by_first true c x more later h e = no_first x more e
by_first false c x more later h e = later h e

some_key_edits : (old new : List ℕ) (n : ℕ) (es : List Entry) → has_entry old es ≡ true
    → key_edits old new n es ≡ [] → ⊥
unfolding has_entry key_edits
some_key_edits old new n [] h e = absurd (let bad : false ≡ true = h in cc)
some_key_edits old new n (x ∷ es) h e =
    by_first (bytes_eq (key_text x) old) (has_entry old es) (key_edit (key_leaf_of n) new)
    (key_edits old new (n + 1) es) (some_key_edits old new (n + 1) es) h e

-- ---- the new bytes

text_of_edits : (f : KeptFile) (es : List Edit) (text : List ℕ) → (es ≡ [] → ⊥) → text ≡ edited f es
    → Some text ≡ text_after f (with_edits es)
unfolding text_after
text_of_edits f [] text some is = absurd (some refl)
text_of_edits f (e ∷ es) text some is = ap Some is

no_text : (f : KeptFile) (es : List Edit) → es ≡ [] → None ≡ text_after f (with_edits es)
unfolding text_after
no_text f es e = sym (ap (λ x. text_after f (with_edits x)) e)

edited_is : (f : KeptFile) (t : Arena) (bytes : List ℕ) (es : List Edit) → tree_in f.reading ≡ Some t
    → f.bytes ≡ Some bytes → new_text t bytes es ≡ edited f es
unfolding edited
edited_is f t bytes es e b =
    sym (ap (λ o. text_by o f.bytes es) e ∙ ap (λ o. text_by (Some t) o es) b)

module _ (f : KeptFile) (o : PropertiesChangePropertyKey) where
  pub not_there : properties_in f ≡ None → None ≡ text_after f (properties_key_changed o f)
  unfolding properties_key_changed text_after
  not_there e = sym (ap (λ p. text_after f (edited_by (λ bytes. edits_of bytes o) p)) e)

  module _ (t : Arena) (bytes : List ℕ) (there : properties_in f ≡ Some (t, bytes)) where
    by_edits : text_after f (with_edits (edits_of bytes o)) ≡ text_after f (properties_key_changed o f)
    unfolding properties_key_changed
    by_edits = sym (ap (λ p. text_after f (edited_by (λ b. edits_of b o) p)) there)

    pub is_text : t ≡ tree_of bytes → tree_in f.reading ≡ Some t → f.bytes ≡ Some bytes → (text : Option (List ℕ))
        → IsRenamed bytes o text → is_some text ≡ has_entry o.old_property_key (properties_of bytes).entries
        → text ≡ text_after f (properties_key_changed o f)
    is_text same tree held None renamed told =
        no_text f (edits_of bytes o)
        (no_key_edits o.old_property_key o.new_property_key 0 (properties_of bytes).entries (sym told)) ∙ by_edits
    is_text same tree held (Some text) renamed told =
        text_of_edits f (edits_of bytes o) text
        (some_key_edits o.old_property_key o.new_property_key 0 (properties_of bytes).entries (sym told))
        (renamed ∙ (ap (λ a. new_text a bytes (edits_of bytes o)) (sym same)
        ∙ edited_is f t bytes (edits_of bytes o) tree held))
        ∙ by_edits

pub ruleset texts = (not_there, is_text)
