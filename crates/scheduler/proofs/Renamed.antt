-- A renaming of keys, whose new bytes are made without edits.
use Rattle.std.proofs.Common.{◌≡◌, ◌⊎◌, ℕ, true, List, [], ◌∷◌, Option, Some, None, refl, sym, ap, ◌∙◌, inl, inr}
use Rattle.rw_base.specs.Arena.{Arena}
use Rattle.rw_base.specs.declared.edit.Edit.{Edit}
use Rattle.rw_host.specs.declared.file.FileEdit.{FileEdit}
use Rattle.rw_host.specs.declared.file.FileEdit.TheVariants as edit
use Rattle.properties_tree.specs.declared.option.PropertiesChangePropertyKey.{PropertiesChangePropertyKey}
use Rattle.kept_files.specs.FileEdits.{edited, text_after, with_edits}
use Rattle.kept_files.specs.Readings.{Reads}
use Rattle.kept_files.specs.States.{State, file_at, properties_in}
use Rattle.kept_files.specs.declared.file.KeptFile.{KeptFile}
use Rattle.recipe_yaml.specs.declared.plans.LeafRecipe.TheVariants as leaf
use Rattle.recipe_yaml.specs.declared.plans.Plan.{Plan}
use Rattle.recipe_yaml.specs.declared.plans.PlannedLeaf.{PlannedLeaf}
use Rattle.conf_recipes.specs.PropertiesEdits.{edits_of}
use Rattle.conf_recipes.specs.PropertiesRecipes.{edited_by, properties_key_changed}
use Rattle.scheduler.specs.declared.fate.Fate.{Fate}
use Rattle.scheduler.specs.declared.fate.Fate.TheVariants.{Stays}
use Rattle.scheduler.specs.Edits.{edits}
use Rattle.scheduler.specs.Holds.{holds}
use Rattle.scheduler.specs.Fates.{read_anew, fate, fate_at}

-- ---- the recipe keeps a file, or edits it at its path

abbrev KeepsOrEdits : FileEdit → Type 0
KeepsOrEdits e = (e ≡ edit.Keep) ⊎ ((es : List Edit) × (e ≡ edit.Edit es None))

by_edits : (es : List Edit) → KeepsOrEdits (with_edits es)
by_edits [] = inl refl
by_edits (e ∷ es) = inr (e ∷ es, refl)

by_file : (edits_for : List ℕ → List Edit) (p : Option (Arena × List ℕ)) → KeepsOrEdits (edited_by edits_for p)
by_file edits_for None = inl refl
by_file edits_for (Some p) = by_edits (edits_for p.1)

keeps_or_edits : (o : PropertiesChangePropertyKey) (f : KeptFile) → KeepsOrEdits (properties_key_changed o f)
unfolding properties_key_changed
keeps_or_edits o f = by_file (λ bytes. edits_of bytes o) (properties_in f)

-- ---- what becomes of the file

module _ (read : Reads) (f : KeptFile) where
  stays : (e : FileEdit) → KeepsOrEdits e → text_after f e ≡ None → Stays ≡ fate read f e
  unfolding fate text_after
  stays e (inl is) none = sym (ap (fate read f) is)
  stays e (inr m) none =
      let bad : Some (edited f m.0) ≡ None = sym (ap (text_after f) m.1) ∙ none in absurd cc

  becomes : (e : FileEdit) (text : List ℕ) → KeepsOrEdits e → text_after f e ≡ Some text
      → read_anew read f.path text ≡ fate read f e
  unfolding fate text_after
  becomes e text (inl is) some = let bad : None ≡ Some text = sym (ap (text_after f) is) ∙ some in absurd cc
  becomes e text (inr m) some =
      let same : Some (edited f m.0) ≡ Some text = sym (ap (text_after f) m.1) ∙ some in
      ap (read_anew read f.path) (cc) ∙ sym (ap (fate read f) m.1)

  pub not_renamed : (o : PropertiesChangePropertyKey) → None ≡ text_after f (properties_key_changed o f)
      → Stays ≡ fate read f (properties_key_changed o f)
  not_renamed o none = stays (properties_key_changed o f) (keeps_or_edits o f) (sym none)

  pub renamed : (o : PropertiesChangePropertyKey) (p text : List ℕ) (d : Fate)
      → Some text ≡ text_after f (properties_key_changed o f) → p ≡ f.path → d ≡ read_anew read p text
      → d ≡ fate read f (properties_key_changed o f)
  renamed o p text d some at is =
      is ∙ (ap (λ q. read_anew read q text) at
      ∙ becomes (properties_key_changed o f) text (keeps_or_edits o f) (sym some))

pub ruleset renamed_by = (not_renamed, renamed)

module _ (read : Reads) (plan : Plan) (l : PlannedLeaf) (value : List (List ℕ)) (files : State) (n : ℕ) where
  pub renames : (o : PropertiesChangePropertyKey) (f : KeptFile) (d : Fate) → holds plan l files n ≡ true
      → f ≡ file_at files n → l.recipe ≡ leaf.PropertiesChangePropertyKey o
      → d ≡ fate read f (properties_key_changed o f) → d ≡ fate_at read plan l value files n
  unfolding fate_at edits
  renames o f d h at is eq =
      eq ∙ (ap (λ g. fate read g (properties_key_changed o g)) at
      ∙ (ap (λ r. fate read (file_at files n) (edits r files n value)) (sym is) ∙ rw h refl))

pub ruleset at_renamed = (renames)
