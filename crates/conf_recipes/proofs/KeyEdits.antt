-- The edits of one entry after another, and that they are edits of leaves.
use Rattle.std.proofs.Common.{◌≡◌, ◌≢◌, ℕ, ◌+◌, ◌*◌, ◌<◌, ◌≤◌, Bool, true, false, List, [], ◌∷◌, ◌++◌, length, drop, get_or, inl, inr, refl, sym, ap, ◌∙◌, append_assoc, append-nil, arith, add-one, drop-cons}
use Rattle.std.specs.Prelude.{All, IsTrue, ◌↔◌, if◌then◌else◌}
use Rattle.std.proofs.lemmas.Bool.{cases_Bool, false≢true}
use Rattle.std.proofs.lemmas.Slice.Eq.{bytes_eq-Decides}
use Rattle.std.specs.Str.{bytes_eq}
use Rattle.std.proofs.lemmas.List.{drop_all}
use Rattle.std.proofs.lemmas.List.Elements.{All-nil, All-cons}
use Rattle.rw_base.specs.declared.edit.Edit.{Edit}
use Rattle.rw_base.specs.declared.edit.Item.TheVariants as item
use Rattle.rw_base.specs.declared.edit.Spot.TheVariants as spot
use Rattle.rw_base.specs.NewText.{IsText, AreLeafEdits}
use Rattle.properties_tree.specs.Decoding.{key_text}
use Rattle.properties_tree.specs.Entries.{Entry, no_entry}
use Rattle.properties_tree.specs.Layout.{key_leaf_of}
use Rattle.properties_tree.specs.Spelling.{spelled_key}
use Rattle.conf_recipes.specs.PropertiesEdits.{key_edit, key_edits}

module _ (old new : List ℕ) where
  cut : (es : List Entry) (n : ℕ) → n < length es → drop n es ≡ get_or es n no_entry ∷ drop (n + 1) es
  cut es n lt = drop-cons es n no_entry lt ∙ rw add-one refl

  -- what was found and what the other entries give, with one entry more found
  pub found : (es : List Entry) (n : ℕ) (so_far all : List Edit) → n < length es → so_far ++ key_edits old new n (drop n es) ≡ all
      → bytes_eq (key_text (get_or es n no_entry)) old ≡ true
      → (so_far ++ key_edit (key_leaf_of n) new ∷ []) ++ key_edits old new (n + 1) (drop (n + 1) es) ≡ all
  unfolding key_edits
  found es n so_far all lt e same =
      append_assoc so_far (key_edit (key_leaf_of n) new ∷ []) (key_edits old new (n + 1) (drop (n + 1) es))
      ∙ (sym (ap (λ x. so_far ++ key_edits old new n x) (cut es n lt) ∙ ap (λ x. so_far ++ x) (rw same refl)) ∙ e)

  pub passed : (es : List Entry) (n : ℕ) (so_far all : List Edit) → n < length es → so_far ++ key_edits old new n (drop n es) ≡ all
      → bytes_eq (key_text (get_or es n no_entry)) old ≡ false
      → so_far ++ key_edits old new (n + 1) (drop (n + 1) es) ≡ all
  unfolding key_edits
  passed es n so_far all lt e other =
      sym (ap (λ x. so_far ++ key_edits old new n x) (cut es n lt) ∙ ap (λ x. so_far ++ x) (rw other refl)) ∙ e

  pub ended : (es : List Entry) (n : ℕ) (so_far all : List Edit) → length es ≤ n → so_far ++ key_edits old new n (drop n es) ≡ all → so_far ≡ all
  unfolding key_edits
  ended es n so_far all le e = sym (ap (λ x. so_far ++ key_edits old new n x) (drop_all n es le) ∙ append-nil so_far) ∙ e

  -- the edits of later entries are at other leaves
  later : (n m : ℕ) (es : List Entry) → n < m → All (λ f. f.spot ≢ spot.Leaf (key_leaf_of n)) (key_edits old new m es)
  unfolding key_edits
  later n m [] lt = All-nil (λ (f : Edit). f.spot ≢ spot.Leaf (key_leaf_of n))
  later n m (e ∷ es) lt = elim (bytes_eq (key_text e) old) as (λ b. All (λ (f : Edit). f.spot ≢ spot.Leaf (key_leaf_of n)) (if b then key_edit (key_leaf_of m) new ∷ key_edits old new (m + 1) es else key_edits old new (m + 1) es)) [
    | true ↦ All-cons (λ (f : Edit). f.spot ≢ spot.Leaf (key_leaf_of n)) (key_edit (key_leaf_of m) new) (key_edits old new (m + 1) es) (λ e. differ e) (later n (m + 1) es (omega arith))
    | false ↦ later n (m + 1) es (omega arith)
  ]
    where
      differ : spot.Leaf (key_leaf_of m) ≡ spot.Leaf (key_leaf_of n) → ⊥
      differ e = let same : key_leaf_of m ≡ key_leaf_of n = cc in omega arith

  -- they are edits of leaves, with texts alone, and no two at one leaf
  pub are_leaf_edits : (count n : ℕ) (es : List Entry) → 4 * (n + length es) ≤ count → AreLeafEdits count (key_edits old new n es)
  unfolding AreLeafEdits key_edits
  are_leaf_edits count n [] le = tt
  are_leaf_edits count n (e ∷ es) le = elim (bytes_eq (key_text e) old) as (λ b. AreLeafEdits count (if b then key_edit (key_leaf_of n) new ∷ key_edits old new (n + 1) es else key_edits old new (n + 1) es)) [
    | true ↦ (omega arith, All-cons IsText (item.Text (spelled_key new)) [] tt (All-nil IsText), later n (n + 1) es (omega arith), are_leaf_edits count (n + 1) es (omega arith))
    | false ↦ are_leaf_edits count (n + 1) es (omega arith)
  ]

-- an answer that says when two texts are equal is their test
pub told_by : (same : Bool) (a b : List ℕ) → IsTrue same ↔ (a ≡ b) → bytes_eq a b ≡ same
told_by true a b told = (bytes_eq-Decides a b).1 (told.0 refl)
told_by false a b told = elim (cases_Bool (bytes_eq a b)) [ inl e ↦ absurd (false≢true (told.1 ((bytes_eq-Decides a b).0 e))) | inr e ↦ e ]
