-- Options, one after another.
use Rattle.std.proofs.Common.{◌≡◌, ◌≢◌, ℕ, ◌+◌, ◌<◌, ◌≤◌, Bool, true, false, not, ◌&&◌, List, [], ◌∷◌, length, take, drop, get_or, Option, Some, None, refl, sym, ap, subst, ◌∙◌}
use Rattle.std.specs.Prelude.{◌↔◌, IsTrue, IsSome}
use Rattle.std.specs.List.{find}
use Rattle.std.specs.Option.{is_some, option_map}
use Rattle.std.specs.Str.{IsUtf8, bytes_eq, is_utf8}
use Rattle.std.proofs.lemmas.Bool.{false≢true}
use Rattle.std.proofs.lemmas.Str.{IsUtf8-from_is_utf8, is_utf8-from_IsUtf8}
use Rattle.std.proofs.lemmas.List.{drop_all}
use Rattle.rw_base.specs.declared.place.Place.{Place}
use Rattle.rw_host.specs.Path.{is_path}
use Rattle.kept_files.specs.Kinds.{is_source}
use Rattle.yaml_tree.specs.declared.key_path.PathStep.{PathStep}
use Rattle.yaml_tree.specs.KeyPaths.{IsKeyPath, IsWrongAt}
use Rattle.recipe_yaml.specs.KeyPathTexts.{KeyPathsOf, AreKeyPaths}
use Rattle.recipe_yaml.specs.LeafNames.{key_of}
use Rattle.recipe_yaml.specs.Leaves.{is_refused, refused_place, taken_as}
use Rattle.recipe_yaml.specs.declared.book.WrittenOption.{WrittenOption}
use Rattle.recipe_yaml.specs.declared.leaf_name.TakenOption.{TakenOption}
use Rattle.recipe_yaml.proofs.Gone.{cut}

-- ---- key paths

module _ (paths : KeyPathsOf) (are : AreKeyPaths paths) (text : List ℕ) where
  pub spells : (steps : List PathStep) → IsKeyPath steps text → Some steps ≡ paths text
  unfolding AreKeyPaths
  spells steps is = sym (are.0 text steps is)

  pub spells_none : (n : ℕ) → IsWrongAt IsKeyPath text n → None ≡ paths text
  unfolding AreKeyPaths
  spells_none n is = sym (are.1 text is.wrong)

pub ruleset key_paths_by = (spells, spells_none)

-- ---- paths of source files

no_test : (b : Bool) (c : Bool) → (b ≡ true → ⊥) → false ≡ (b && c)
no_test true c not = absurd (not refl)
no_test false c not = refl

pub no_utf8 : (text : List ℕ) (b : Bool) → ¬ (IsUtf8 text) → false ≡ (is_utf8 text && b)
no_utf8 text b not = no_test (is_utf8 text) b (λ is. not (IsUtf8-from_is_utf8 text is))

same_test : (path : Option (List ℕ)) (b : Bool) → (IsSome path ↔ IsTrue b) → is_some path ≡ b
same_test None true same = absurd (false≢true (same.1 refl))
same_test None false same = refl
same_test (Some p) true same = refl
same_test (Some p) false same = absurd (false≢true (same.0 refl))

and_true : (b : Bool) → b ≡ (b && true)
and_true true = refl
and_true false = refl

pub a_source : (text t : List ℕ) (path : Option (List ℕ)) → IsUtf8 text → t ≡ text → (IsSome path ↔ IsTrue (is_path t)) → is_source t ≡ true
    → is_some path ≡ (is_utf8 text && (is_path text && is_source text))
a_source text t path utf8 same there source =
    let utf : is_utf8 text ≡ true = is_utf8-from_IsUtf8 text utf8 in
    let sources : is_source text ≡ true = subst (λ s. is_source s ≡ true) same source in
    same_test path (is_path t) there
    ∙ (ap is_path same ∙ (and_true (is_path text) ∙ (ap (λ b. is_path text && b) (sym sources) ∙ ap (λ b. b && (is_path text && is_source text)) (sym utf))))

-- ---- what is taken under a key

module _ (ts : List TakenOption) (key : List ℕ) (i : ℕ) (a : Option TakenOption) where
  pub taken_more : (d : TakenOption) → i < length ts → taken_as (drop i ts) key ≡ a → bytes_eq key (key_of (get_or ts i d).name) ≡ false → taken_as (drop (i + 1) ts) key ≡ a
  unfolding taken_as
  taken_more d lt e h = sym (ap (find (λ t. bytes_eq key (key_of t.name))) (cut ts i d lt) ∙ rw h refl) ∙ e

  pub taken_here : (d : TakenOption) → i < length ts → taken_as (drop i ts) key ≡ a → bytes_eq key (key_of (get_or ts i d).name) ≡ true → Some (get_or ts i d) ≡ a
  unfolding taken_as
  taken_here d lt e h = sym (ap (find (λ t. bytes_eq key (key_of t.name))) (cut ts i d lt) ∙ rw h refl) ∙ e

  pub taken_end : length ts ≤ i → taken_as (drop i ts) key ≡ a → None ≡ a
  unfolding taken_as
  taken_end le e = sym (ap (find (λ t. bytes_eq key (key_of t.name))) (drop_all i ts le)) ∙ e

pub ruleset taken_by = (taken_more, taken_here, taken_end)

-- ---- the first refused value

module _ (paths : KeyPathsOf) (taken : List TakenOption) (os : List WrittenOption) (i : ℕ) where
  pub refused_more : (d : WrittenOption) (a : Option Place) → i < length os → refused_place paths taken (drop i os) ≡ a
      → false ≡ is_refused paths taken (get_or os i d) → refused_place paths taken (drop (i + 1) os) ≡ a
  unfolding refused_place
  refused_more d a lt e h = sym (ap (λ xs. option_map (λ (o : WrittenOption). o.value_place) (find (is_refused paths taken) xs)) (cut os i d lt) ∙ rw (sym h) refl) ∙ e

  pub refused_here : (d : WrittenOption) (a : Option Place) → i < length os → refused_place paths taken (drop i os) ≡ a
      → true ≡ is_refused paths taken (get_or os i d) → Some (get_or os i d).value_place ≡ a
  unfolding refused_place
  refused_here d a lt e h = sym (ap (λ xs. option_map (λ (o : WrittenOption). o.value_place) (find (is_refused paths taken) xs)) (cut os i d lt) ∙ rw (sym h) refl) ∙ e

  pub refused_end : (a : Option Place) → length os ≤ i → refused_place paths taken (drop i os) ≡ a → None ≡ a
  unfolding refused_place
  refused_end a le e = sym (ap (λ xs. option_map (λ (o : WrittenOption). o.value_place) (find (is_refused paths taken) xs)) (drop_all i os le)) ∙ e

pub ruleset refused_by = (refused_more, refused_here, refused_end)
