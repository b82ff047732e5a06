-- The new text, one leaf and one item after another.
use Rattle.std.proofs.Common.{◌≡◌, ℕ, ◌+◌, ◌<◌, ◌≤◌, List, [], ◌∷◌, ◌++◌, length, drop, get_or, refl, sym, ap, ◌∙◌, append_assoc, append-nil, arith, add-one, drop-cons}
use Rattle.std.specs.Prelude.{Option, Some, None, option_map, unwrap_or, slice_range}
use Rattle.std.proofs.lemmas.List.{drop_all, take_all}
use Rattle.rw_base.specs.declared.tree.Leaf.{Leaf}
use Rattle.rw_base.specs.declared.edit.Item.{Item}
use Rattle.rw_base.specs.declared.edit.Spot.{Spot}
use Rattle.rw_base.specs.declared.edit.Edit.{Edit}
use Rattle.rw_base.specs.Arena.{Arena, Tile, end_from, end_of, leaf_at, no_leaf, prefix_of, text_of}
use Rattle.rw_base.specs.NewText.{item_text, items_text, leaf_edit, leaves_new, edit_at}
use Rattle.rw_base.specs.Chosen.{no_edit, leaf_spot, items_of, AreChosen}
use Rattle.rw_base.specs.Gaps.{start_of}
use Rattle.rw_base.specs.Starts.{IsThere, there}
use Rattle.rw_base.specs.Joins.{joined_slices, empty_slice}
use Rattle.rw_base.proofs.Choosing.{same_at}

next : {A : Type 0} (xs : List A) (k : ℕ) (d : A) → k < length xs → drop k xs ≡ get_or xs k d ∷ drop (k + 1) xs
next xs k d lt = drop-cons xs k d lt ∙ rw add-one refl

pub items_next : (so_far out : List ℕ) (is : List Item) (k : ℕ) (d : Item) → k < length is → so_far ≡ out ++ items_text (drop k is) → so_far ≡ (out ++ item_text (get_or is k d)) ++ items_text (drop (k + 1) is)
items_next so_far out is k d lt e =
    e ∙ ap (λ xs. out ++ items_text xs) (next is k d lt) ∙ sym (append_assoc out (item_text (get_or is k d)) (items_text (drop (k + 1) is)))

-- ---- where leaves begin

-- What `rearranged` has copied when it comes to leaf i: the new text is what is out, the bytes from there to the
-- leaf, and the new text from the leaf on.
pub record IsCopied (t : Arena) (bytes : List ℕ) (edits : List Edit) (i copied : ℕ) (out : List ℕ) : Type 0 where
  pub before : copied ≤ start_of t.leaves i
  pub text : leaves_new edits bytes 0 t.leaves ≡ (out ++ slice_range bytes copied (start_of t.leaves i)) ++ leaves_new edits bytes i (drop i t.leaves)

pub nothing_copied : (t : Arena) (bytes : List ℕ) (edits : List Edit) (out : List ℕ) → out ≡ [] → IsCopied t bytes edits 0 0 out
nothing_copied t bytes edits out e = record {
  before = omega arith;
  text = ap (λ o. o ++ leaves_new edits bytes 0 t.leaves) (sym (ap (λ o. o ++ slice_range bytes 0 0) e ∙ empty_slice bytes 0));
}

module _ (t : Arena) (bytes : List ℕ) (edits : List Edit) (i copied : ℕ) (out : List ℕ) (tile : Tile 0 t.leaves) (lt : i < length t.leaves) (so_far : IsCopied t bytes edits i copied out) where
  abbrev l : Leaf
  l = leaf_at t.leaves i

  abbrev more : List ℕ
  more = leaves_new edits bytes (i + 1) (drop (i + 1) t.leaves)

  spot : IsThere 0 t.leaves i l
  unfolding leaf_at
  spot = there 0 t.leaves i no_leaf tile lt

  step : leaves_new edits bytes i (drop i t.leaves) ≡ (prefix_of bytes l ++ unwrap_or (leaf_edit edits i) (text_of bytes l)) ++ more
  unfolding leaf_at leaves_new
  step = ap (leaves_new edits bytes i) (next t.leaves i no_leaf lt)

  -- the bytes up to this leaf's text
  pub before_text : copied ≤ l.from
  before_text = omega (arith, so_far.before, spot.begins, spot.prefix)

  to_leaf : slice_range bytes copied (start_of t.leaves i) ≡ slice_range bytes copied l.prefix_from
  to_leaf = ap (slice_range bytes copied) spot.begins

  gap : slice_range bytes copied l.prefix_from ++ prefix_of bytes l ≡ slice_range bytes copied l.from
  gap = joined_slices bytes copied l.prefix_from l.from (omega (arith, so_far.before, spot.begins)) spot.prefix

  at_word : (word : List ℕ) → unwrap_or (leaf_edit edits i) (text_of bytes l) ≡ word → leaves_new edits bytes 0 t.leaves ≡ ((out ++ slice_range bytes copied l.from) ++ word) ++ more
  at_word word e =
      so_far.text
      ∙ (ap (λ (r : List ℕ). (out ++ slice_range bytes copied (start_of t.leaves i)) ++ r) (step ∙ ap (λ w. (prefix_of bytes l ++ w) ++ more) e)
      ∙ (ap (λ g. (out ++ g) ++ ((prefix_of bytes l ++ word) ++ more)) to_leaf
      ∙ (regroup out (slice_range bytes copied l.prefix_from) (prefix_of bytes l) word more
      ∙ ap (λ g. ((out ++ g) ++ word) ++ more) gap)))
    where
      regroup : (a b c d e : List ℕ) → (a ++ b) ++ ((c ++ d) ++ e) ≡ ((a ++ (b ++ c)) ++ d) ++ e
      regroup a b c d e = simp append_assoc

  pub kept : leaf_edit edits i ≡ None → IsCopied t bytes edits (i + 1) copied out
  kept none = record {
    before = omega (arith, so_far.before, spot.begins, spot.ends, spot.prefix, spot.text);
    text = at_word (text_of bytes l) (ap (λ o. unwrap_or o (text_of bytes l)) none)
        ∙ (ap (λ g. g ++ more) (append_assoc out (slice_range bytes copied l.from) (text_of bytes l))
        ∙ ap (λ g. (out ++ g) ++ more) (joined_slices bytes copied l.from l.to before_text spot.text ∙ ap (slice_range bytes copied) (sym spot.ends)));
  }

  pub edited : (text : List ℕ) → leaf_edit edits i ≡ Some text → IsCopied t bytes edits (i + 1) l.to ((out ++ slice_range bytes copied l.from) ++ text)
  edited text some = record {
    before = omega (arith, spot.ends);
    text = at_word text (ap (λ o. unwrap_or o (text_of bytes l)) some)
        ∙ ap (λ g. g ++ more) (sym (ap (λ g. ((out ++ slice_range bytes copied l.from) ++ text) ++ g) (ap (slice_range bytes l.to) spot.ends ∙ empty_slice bytes l.to) ∙ append-nil ((out ++ slice_range bytes copied l.from) ++ text)));
  }

pub all_copied : (t : Arena) (bytes : List ℕ) (edits : List Edit) (i copied : ℕ) (out : List ℕ) → length t.leaves ≤ i → length bytes ≡ end_of t → IsCopied t bytes edits i copied out
    → (copied ≤ length bytes) × (out ++ slice_range bytes copied (length bytes) ≡ leaves_new edits bytes 0 t.leaves)
unfolding leaves_new
all_copied t bytes edits i copied out le size done =
    let at_end : start_of t.leaves i ≡ length bytes = ap (end_from 0) (take_all i t.leaves le) ∙ sym size in
    let text = done.text in (
      omega (arith, done.before, at_end),
      sym (text
          ∙ (ap (λ ls. (out ++ slice_range bytes copied (start_of t.leaves i)) ++ leaves_new edits bytes i ls) (drop_all i t.leaves le)
          ∙ (append-nil (out ++ slice_range bytes copied (start_of t.leaves i))
          ∙ ap (λ n. out ++ slice_range bytes copied n) at_end))),
    )

-- ---- the edit that was chosen for a leaf

pub chosen_some : (to : ℕ → Spot) (count : ℕ) (edits : List Edit) (chosen : List (Option ℕ)) (i k : ℕ) (d : Option ℕ) (e : Edit) → AreChosen to count edits chosen → i < count → get_or chosen i d ≡ Some k
    → (k < length edits) × (edit_at edits (to i) ≡ Some (get_or edits k e).items)
chosen_some to count edits chosen i k d e all lt is =
    let here : get_or chosen i None ≡ Some k = same_at chosen i None d (omega (arith, all.long)) ∙ is in
    let inside : k < length edits = all.inside i k here in (
      inside,
      all.each i lt ∙ (ap (items_of edits) here ∙ ap (λ (x : Edit). Some x.items) (same_at edits k no_edit e inside)),
    )

pub chosen_none : (to : ℕ → Spot) (count : ℕ) (edits : List Edit) (chosen : List (Option ℕ)) (i : ℕ) (d : Option ℕ) → AreChosen to count edits chosen → i < count → get_or chosen i d ≡ None → edit_at edits (to i) ≡ None
chosen_none to count edits chosen i d all lt is =
    all.each i lt ∙ ap (items_of edits) (same_at chosen i None d (omega (arith, all.long)) ∙ is)

-- what is put in the place of a leaf's text
pub leaf_some : (edits : List Edit) (i : ℕ) (is : List Item) → edit_at edits (leaf_spot i) ≡ Some is → leaf_edit edits i ≡ Some (items_text is)
unfolding leaf_edit
leaf_some edits i is e = ap (option_map items_text) e

pub leaf_none : (edits : List Edit) (i : ℕ) → edit_at edits (leaf_spot i) ≡ None → leaf_edit edits i ≡ None
unfolding leaf_edit
leaf_none edits i e = ap (option_map items_text) e
