-- What becomes of one file, by cases, as the functions meet them.
use Rattle.std.proofs.Common.{◌≡◌, ℕ, ◌+◌, ◌<◌, ◌≤◌, Bool, true, false, not, ◌&&◌, ◌||◌, List, [], ◌∷◌, ◌++◌, length, take, drop, get_or, Option, Some, None, refl, sym, ap, subst, ◌∙◌, add-one, drop-cons}
use Rattle.std.specs.Prelude.{unwrap_or, slice_index_or}
use Rattle.std.specs.List.{list_any, list_all}
use Rattle.std.proofs.lemmas.List.{drop_all, take_all}
use Rattle.std.proofs.lemmas.List.Folds.{list_any_more, list_any_at}
use Rattle.rw_base.specs.Arena.{Arena, end_of}
use Rattle.rw_base.specs.NewText.{new_text, AreEdits}
use Rattle.rw_base.specs.declared.edit.Edit.{Edit}
use Rattle.rw_base.specs.declared.place.Refused.{Refused}
use Rattle.kept_files.specs.declared.reading.Reading.{Reading}
use Rattle.kept_files.specs.declared.reading.Reading.TheVariants as reading
use Rattle.rw_host.specs.declared.file.FileEdit.{FileEdit}
use Rattle.rw_host.specs.declared.file.FileEdit.TheVariants as edit
use Rattle.kept_files.specs.FileEdits.{FitTree, edited, text_by}
use Rattle.kept_files.specs.Readings.{Reads, IsReading, EndsWith}
use Rattle.kept_files.specs.States.{State, IsKept, EndsAt, file_at, tree_in}
use Rattle.kept_files.specs.declared.file.KeptFile.{KeptFile}
use Rattle.recipe_yaml.specs.declared.plans.Plan.{Plan}
use Rattle.recipe_yaml.specs.declared.plans.PlannedLeaf.{PlannedLeaf}
use Rattle.recipe_yaml.specs.declared.plans.Condition.{Condition}
use Rattle.scheduler.specs.declared.fate.Fate.{Fate}
use Rattle.scheduler.specs.declared.fate.Fate.TheVariants.{Stays, Goes, Lost, Becomes}
use Rattle.scheduler.specs.Edits.{edits}
use Rattle.scheduler.specs.Holds.{holds, holds_by, met_from, gives}
use Rattle.scheduler.specs.Fates.{accepted, read_anew, fate, fate_at}
use Rattle.scheduler.specs.Steps.{IsFateKept}

pub cut : {A : Type 0} (xs : List A) (i : ℕ) (d : A) → i < length xs → drop i xs ≡ get_or xs i d ∷ drop (i + 1) xs
cut xs i d lt = drop-cons xs i d lt ∙ rw add-one refl

-- ---- whether one of a list passes a test

module _ {A : Type 0} (p : A → Bool) (xs : List A) (i : ℕ) where
  pub any_more : (d : A) → i < length xs → list_any p (take i xs) ≡ false → p (get_or xs i d) ≡ false → list_any p (take (i + 1) xs) ≡ false
  any_more d lt e h = list_any_more p xs i d lt ∙ (ap (λ b. b || p (get_or xs i d)) e ∙ h)

  pub any_here : (d : A) → i < length xs → p (get_or xs i d) ≡ true → true ≡ list_any p xs
  any_here d lt h = sym (list_any_at p xs i d lt h)

  pub any_end : length xs ≤ i → list_any p (take i xs) ≡ false → false ≡ list_any p xs
  any_end le e = sym e ∙ ap (list_any p) (take_all i xs le)

pub ruleset any_by = (any_more, any_here, any_end)

-- ---- preconditions

none_and_all : (b r s : Bool) → not r ≡ s → not (not b || r) ≡ (b && s)
none_and_all true r s e = e
none_and_all false r s e = refl

all_by_none : (p : ℕ → Bool) (xs : List ℕ) → not (list_any (λ k. not (p k)) xs) ≡ list_all p xs
all_by_none p [] = refl
all_by_none p (x ∷ xs) = none_and_all (p x) (list_any (λ k. not (p k)) xs) (list_all p xs) (all_by_none p xs)

pub all_from_none : (p : ℕ → Bool) (xs : List ℕ) (b : Bool) → b ≡ list_any (λ k. not (p k)) xs → not b ≡ list_all p xs
all_from_none p xs b e = ap not e ∙ all_by_none p xs

pub no_conditions : (plan : Plan) (l : PlannedLeaf) (files : State) (n : ℕ) → l.conditions ≡ [] → true ≡ holds plan l files n
unfolding holds
no_conditions plan l files n e = rw e refl

pub some_conditions : (plan : Plan) (l : PlannedLeaf) (files : State) (n : ℕ) (met : List Bool) (b : Bool) → met ≡ met_from files n [] plan.conditions → b ≡ list_all (λ k. slice_index_or met k false) l.conditions → b ≡ holds plan l files n
unfolding holds
some_conditions plan l files n met b e h = h ∙ ap (λ m. holds_by files n m l) e

pub ruleset holds_by_all = (no_conditions, some_conditions)

pub met_more : (files : State) (n : ℕ) (cs : List Condition) (i : ℕ) (d : Condition) (met all : List Bool) (b : Bool) → i < length cs → met_from files n met (drop i cs) ≡ all → b ≡ list_any (gives files n met) (get_or cs i d).leaves → met_from files n (met ++ b ∷ []) (drop (i + 1) cs) ≡ all
unfolding met_from
met_more files n cs i d met all b lt e h =
    ap (λ x. met_from files n (met ++ x ∷ []) (drop (i + 1) cs)) h
    ∙ (sym (ap (met_from files n met) (cut cs i d lt)) ∙ e)

pub met_end : (files : State) (n : ℕ) (cs : List Condition) (i : ℕ) (met all : List Bool) → length cs ≤ i → met_from files n met (drop i cs) ≡ all → met ≡ all
unfolding met_from
met_end files n cs i met all le e = sym (ap (met_from files n met) (drop_all i cs le)) ∙ e

pub ruleset met_by = (met_more, met_end)

-- ---- the new bytes

pub edited_by : (f : KeptFile) (t : Arena) (bytes given : List ℕ) (es : List Edit) (text : List ℕ) → Some t ≡ tree_in f.reading → f.bytes ≡ Some bytes → given ≡ bytes → text ≡ new_text t given es → text ≡ edited f es
unfolding edited
edited_by f t bytes given es text e b g h = h ∙ (ap (λ x. new_text t x es) g ∙ sym (ap (λ o. text_by o f.bytes es) (sym e) ∙ ap (λ o. text_by (Some t) o es) b))

pub tree_ends : (f : KeptFile) (t : Arena) (bytes given : List ℕ) → IsKept f → Some t ≡ tree_in f.reading → f.bytes ≡ Some bytes → given ≡ bytes → length given ≡ end_of t
tree_ends f t bytes given k e b g = ap length g ∙ sym (subst (λ o. EndsAt o (Some bytes)) (sym e) (subst (λ o. EndsAt (tree_in f.reading) o) b k.whole))

pub tree_fits : (f : KeptFile) (t : Arena) (es : List Edit) → Some t ≡ tree_in f.reading → FitTree (tree_in f.reading) es → AreEdits t es
tree_fits f t es e h = subst (λ o. FitTree o es) (sym e) h

-- ---- a file of new bytes

module _ (read : Reads) (path bytes : List ℕ) (r : Reading) where
  pub accepted_is : (d : Fate) → r ≡ read path (Some bytes) → d ≡ accepted path bytes r → d ≡ read_anew read path bytes
  accepted_is d is e = e ∙ ap (accepted path bytes) is

  pub accepted_lost : (x : Refused) → r ≡ read path (Some bytes) → r ≡ reading.Refused x → Lost x ≡ read_anew read path bytes
  accepted_lost x is e = ap (accepted path bytes) (sym e ∙ is)

becomes_kept : (path bytes : List ℕ) (r : Reading) → IsReading path (Some bytes) r → EndsWith bytes r → IsKept (record { path = path; bytes = Some bytes; reading = r })
becomes_kept path bytes (reading.Java t) is e = record { reading = is; whole = e }
becomes_kept path bytes (reading.Yaml t) is e = record { reading = is; whole = e }
becomes_kept path bytes (reading.Properties t) is e = record { reading = is; whole = e }
becomes_kept path bytes reading.Unread is e = record { reading = is; whole = tt }
becomes_kept path bytes (reading.Refused x) is e = record { reading = is; whole = tt }

pub becomes_fate_kept : (path bytes : List ℕ) (r : Reading) → IsReading path (Some bytes) r → EndsWith bytes r → IsFateKept (Becomes (record { path = path; bytes = Some bytes; reading = r }))
becomes_fate_kept path bytes r is e = becomes_kept path bytes r is e

pub ruleset accepted_by = (accepted_is, accepted_lost, becomes_fate_kept)

module _ (path bytes p b : List ℕ) (r : Reading) (at : p ≡ path) (of : b ≡ bytes) where
  pub reading_of : IsReading p (Some b) r → IsReading path (Some bytes) r
  reading_of is = subst (λ x. IsReading path (Some x) r) of (subst (λ x. IsReading x (Some b) r) at is)

  pub ends_of : EndsWith b r → EndsWith bytes r
  ends_of e = subst (λ x. EndsWith x r) of e

  pub same_of : (read : Reads) → r ≡ read p (Some b) → r ≡ read path (Some bytes)
  same_of read is = is ∙ (ap (λ x. read x (Some b)) at ∙ ap (λ x. read path (Some x)) of)

pub ruleset anew_by = (reading_of, ends_of, same_of)

-- ---- what a recipe's edit makes of a file

module _ (read : Reads) (f : KeptFile) where
  pub fate_edit : (es : List Edit) (path : Option (List ℕ)) (p text : List ℕ) (d : Fate) → p ≡ unwrap_or path f.path → text ≡ edited f es → d ≡ read_anew read p text → d ≡ fate read f (edit.Edit es path)
  unfolding fate
  fate_edit es path p text d e t h = h ∙ (ap (λ q. read_anew read q text) e ∙ ap (read_anew read (unwrap_or path f.path)) t)

  pub fate_remove : Goes ≡ fate read f edit.Remove
  unfolding fate
  fate_remove = refl

  pub fate_keep : Stays ≡ fate read f edit.Keep
  unfolding fate
  fate_keep = refl

  pub fate_found : Stays ≡ fate read f edit.Found
  unfolding fate
  fate_found = refl

pub ruleset fate_by = (fate_edit, fate_remove, fate_keep, fate_found)

module _ (read : Reads) (plan : Plan) (l : PlannedLeaf) (value : List (List ℕ)) (files : State) (n : ℕ) where
  pub runs : (f : KeptFile) (e : FileEdit) (d : Fate) → holds plan l files n ≡ true → f ≡ file_at files n → e ≡ edits l.recipe files n value → d ≡ fate read f e → d ≡ fate_at read plan l value files n
  unfolding fate_at
  runs f e d h at is eq = eq ∙ (ap (λ g. fate read g e) at ∙ (ap (fate read (file_at files n)) is ∙ rw h refl))

  pub rests : holds plan l files n ≡ false → Stays ≡ fate_at read plan l value files n
  unfolding fate_at
  rests h = rw h refl

pub ruleset at_by = (runs, rests)

-- the tree by the kind of a reading
module _ (f : KeptFile) (t : Arena) where
  pub java_tree : f.reading ≡ reading.Java t → Some t ≡ tree_in f.reading
  java_tree e = sym (ap tree_in e)

  pub yaml_tree : f.reading ≡ reading.Yaml t → Some t ≡ tree_in f.reading
  yaml_tree e = sym (ap tree_in e)

  pub properties_tree : (u : Arena) → f.reading ≡ reading.Properties u → t ≡ u → Some t ≡ tree_in f.reading
  properties_tree u e is = ap Some is ∙ sym (ap tree_in e)

no_text : (o : Option Arena) (es : List Edit) → [] ≡ text_by o None es
no_text None es = refl
no_text (Some t) es = refl

pub without_bytes : (f : KeptFile) (es : List Edit) → f.bytes ≡ None → [] ≡ edited f es
unfolding edited
without_bytes f es e = no_text (tree_in f.reading) es ∙ sym (ap (λ b. text_by (tree_in f.reading) b es) e)

pub unread_text : (f : KeptFile) (es : List Edit) → f.reading ≡ reading.Unread → [] ≡ edited f es
unfolding edited
unread_text f es e = sym (ap (λ r. text_by (tree_in r) f.bytes es) e)

pub refused_text : (f : KeptFile) (x : Refused) (es : List Edit) → f.reading ≡ reading.Refused x → [] ≡ edited f es
unfolding edited
refused_text f x es e = sym (ap (λ r. text_by (tree_in r) f.bytes es) e)

pub ruleset edited_is = (
  edited_by,
  tree_ends,
  tree_fits,
  java_tree,
  yaml_tree,
  properties_tree,
  without_bytes,
  unread_text,
  refused_text,
)
