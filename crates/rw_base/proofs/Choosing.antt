-- The positions of edits, found one edit after another.
use Rattle.std.proofs.Common.{◌≡◌, ◌≢◌, ℕ, zero, suc, ◌+◌, ◌<◌, ◌≤◌, List, [], ◌∷◌, length, drop, get_or, set, refl, sym, ap, subst, ◌∙◌, arith, add-one, drop-cons, get_or-set_other, get_or-set_same, ◌⊎◌, inl, inr}
use Rattle.std.specs.Prelude.{Option, Some, None, All}
use Rattle.std.proofs.lemmas.List.{length-set, drop_all}
use Rattle.std.proofs.lemmas.List.Elements.{All-tail, All-head}
use Rattle.std.proofs.lemmas.Bool.{cases_eq}
use Rattle.rw_base.specs.declared.edit.Item.{Item}
use Rattle.rw_base.specs.declared.edit.Spot.{Spot}
use Rattle.rw_base.specs.declared.edit.Spot.TheVariants as spot
use Rattle.rw_base.specs.declared.edit.Edit.{Edit}
use Rattle.rw_base.specs.Arena.{Arena}
use Rattle.rw_base.specs.NewText.{edit_at, IsSpot, AreEdits}
use Rattle.rw_base.specs.EditLaws.{edit_here, edit_later}
use Rattle.rw_base.specs.Chosen.{no_edit, leaf_spot, node_spot, items_of, AreChosen}

abbrev pub or_else : Option (List Item) → Option (List Item) → Option (List Item)
or_else None more = more
or_else (Some items) more = Some items

-- what the first k edits have chosen
pub record IsChoosing (t : Arena) (to : ℕ → Spot) (count : ℕ) (edits : List Edit) (k : ℕ) (chosen : List (Option ℕ)) : Type 0 where
  pub long : length chosen ≡ count
  pub each : (i : ℕ) → i < count → edit_at edits (to i) ≡ or_else (items_of edits (get_or chosen i None)) (edit_at (drop k edits) (to i))
  pub inside : (i j : ℕ) → get_or chosen i None ≡ Some j → j < length edits
  pub fresh : (i j : ℕ) → get_or chosen i None ≡ Some j → edit_at (drop k edits) (to i) ≡ None
  pub rest : AreEdits t (drop k edits)

-- the default of a read within the list doesn't matter
pub same_at : {A : Type 0} (xs : List A) (i : ℕ) (d e : A) → i < length xs → get_or xs i d ≡ get_or xs i e
same_at [] i d e lt = absurd (omega arith)
same_at (x ∷ xs) zero d e lt = refl
same_at (x ∷ xs) (suc i) d e lt = same_at xs i d e (omega arith)

-- no edit is at a spot from which all spots differ
none_left : (es : List Edit) (s : Spot) → All (λ f. f.spot ≢ s) es → edit_at es s ≡ None
unfolding edit_at
none_left [] s h = refl
none_left (e ∷ es) s h = edit_later e es s (All-head (λ (f : Edit). f.spot ≢ s) e es h) ∙ none_left es s (All-tail (λ (f : Edit). f.spot ≢ s) e es h)

module _ (t : Arena) (to : ℕ → Spot) (count : ℕ) (edits : List Edit) (k : ℕ) (chosen : List (Option ℕ)) (e : Edit) (lt : k < length edits) (here : e ≡ get_or edits k e) (so_far : IsChoosing t to count edits k chosen) where
  abbrev rest : List Edit
  rest = drop (k + 1) edits

  cut : drop k edits ≡ e ∷ rest
  cut = drop-cons edits k e lt ∙ ap (λ x. x ∷ drop (suc k) edits) (sym here) ∙ rw add-one refl

  parts : IsSpot t e.spot × All (λ f. f.spot ≢ e.spot) rest × AreEdits t rest
  unfolding AreEdits
  parts = let left : AreEdits t (e ∷ rest) = subst (AreEdits t) cut so_far.rest in (left.0, left.2, left.3)

  pub spot_inside : IsSpot t e.spot
  spot_inside = parts.0

  elsewhere : (s : Spot) → e.spot ≢ s → edit_at (drop k edits) s ≡ edit_at rest s
  elsewhere s ne = ap (λ es. edit_at es s) cut ∙ edit_later e rest s ne

  -- an edit at another kind of spot
  pub chosen_past : ((i : ℕ) → e.spot ≢ to i) → IsChoosing t to count edits (k + 1) chosen
  chosen_past other = record {
    long = so_far.long;
    each = λ i lt. so_far.each i lt ∙ ap (or_else (items_of edits (get_or chosen i None))) (elsewhere (to i) (other i));
    inside = so_far.inside;
    fresh = λ i j is. sym (elsewhere (to i) (other i)) ∙ so_far.fresh i j is;
    rest = parts.2;
  }

  module _ (m : ℕ) (at_spot : e.spot ≡ to m) (apart : (i j : ℕ) → to i ≡ to j → i ≡ j) (below : m < count) where
    at_this : edit_at (drop k edits) (to m) ≡ Some e.items
    at_this = ap (λ es. edit_at es (to m)) cut ∙ (ap (edit_at (e ∷ rest)) (sym at_spot) ∙ edit_here e rest)

    not_again : edit_at rest (to m) ≡ None
    not_again = none_left rest (to m) (subst (λ s. All (λ f. f.spot ≢ s) rest) at_spot parts.1)

    other : (i : ℕ) → (m ≡ i → ⊥) → e.spot ≢ to i
    other i ne same = ne (apart m i (sym at_spot ∙ same))

    abbrev now : List (Option ℕ)
    now = set chosen m (Some k)

    in_list : m < length chosen
    in_list = omega (arith, below, so_far.long)

    -- nothing was chosen for the spot before
    was_free : (o : Option ℕ) → get_or chosen m None ≡ o → edit_at edits (to m) ≡ Some e.items
    was_free None is = so_far.each m below ∙ (ap (λ o. or_else (items_of edits o) (edit_at (drop k edits) (to m))) is ∙ at_this)
    was_free (Some j) is = absurd (let none = so_far.fresh m j is in let some = at_this in cc)

    text_here : e.items ≡ (get_or edits k no_edit).items
    text_here = ap (λ (x : Edit). x.items) (here ∙ same_at edits k e no_edit lt)

    each_now : (i : ℕ) → i < count → (m ≡ i) ⊎ (m ≡ i → ⊥) → edit_at edits (to i) ≡ or_else (items_of edits (get_or now i None)) (edit_at rest (to i))
    each_now i lt (inl same) =
        subst (λ i. edit_at edits (to i) ≡ or_else (items_of edits (get_or now i None)) (edit_at rest (to i))) same
        (was_free (get_or chosen m None) refl ∙ ap (λ (is : List Item). Some is) text_here ∙ sym (ap (λ o. or_else (items_of edits o) (edit_at rest (to m))) (get_or-set_same chosen m (Some k) None in_list)))
    each_now i lt (inr ne) =
        so_far.each i lt
        ∙ ap (or_else (items_of edits (get_or chosen i None))) (elsewhere (to i) (other i ne))
        ∙ sym (ap (λ o. or_else (items_of edits o) (edit_at rest (to i))) (get_or-set_other chosen m i (Some k) None (λ e. ne (sym e))))

    inside_now : (i j : ℕ) → (m ≡ i) ⊎ (m ≡ i → ⊥) → get_or now i None ≡ Some j → j < length edits
    inside_now i j (inl same) is =
        let this : Some k ≡ Some j = sym (get_or-set_same chosen m (Some k) None in_list) ∙ (ap (λ i. get_or now i None) same ∙ is) in
        let same_place : k ≡ j = cc in
        omega arith
    inside_now i j (inr ne) is = so_far.inside i j (sym (get_or-set_other chosen m i (Some k) None (λ e. ne (sym e))) ∙ is)

    fresh_now : (i j : ℕ) → (m ≡ i) ⊎ (m ≡ i → ⊥) → get_or now i None ≡ Some j → edit_at rest (to i) ≡ None
    fresh_now i j (inl same) is = subst (λ i. edit_at rest (to i) ≡ None) same not_again
    fresh_now i j (inr ne) is = sym (elsewhere (to i) (other i ne)) ∙ so_far.fresh i j (sym (get_or-set_other chosen m i (Some k) None (λ e. ne (sym e))) ∙ is)

    pub chosen_here : IsChoosing t to count edits (k + 1) now
    chosen_here = record {
      long = length-set chosen m (Some k) ∙ so_far.long;
      each = λ i lt. each_now i lt (cases_eq m i);
      inside = λ i j. inside_now i j (cases_eq m i);
      fresh = λ i j. fresh_now i j (cases_eq m i);
      rest = parts.2;
    }

-- spots of one kind are apart where their numbers are, and never of the other kind
pub leaves_apart : (i j : ℕ) → leaf_spot i ≡ leaf_spot j → i ≡ j
leaves_apart i j e = cc

pub nodes_apart : (i j : ℕ) → node_spot i ≡ node_spot j → i ≡ j
nodes_apart i j e = ap number e
  where
    number : Spot → ℕ
    number (spot.Node n) = n.0
    number (spot.Leaf k) = 0

-- before the first edit none is chosen
pub none_chosen : (t : Arena) (to : ℕ → Spot) (count : ℕ) (edits : List Edit) (chosen : List (Option ℕ)) → AreEdits t edits → length chosen ≡ count → ((i : ℕ) → get_or chosen i None ≡ None) → IsChoosing t to count edits 0 chosen
none_chosen t to count edits chosen fit long none = record {
  long = long;
  each = λ i lt. sym (ap (λ o. or_else (items_of edits o) (edit_at edits (to i))) (none i));
  inside = λ i j is. absurd (let free = none i in cc);
  fresh = λ i j is. absurd (let free = none i in cc);
  rest = fit;
}

-- after the last edit all are chosen
pub all_chosen : (t : Arena) (to : ℕ → Spot) (count : ℕ) (edits : List Edit) (k : ℕ) (chosen : List (Option ℕ)) → length edits ≤ k → IsChoosing t to count edits k chosen → AreChosen to count edits chosen
unfolding edit_at
all_chosen t to count edits k chosen le done = record {
  long = done.long;
  each = λ i lt. done.each i lt ∙ ap (λ es. or_else (items_of edits (get_or chosen i None)) (edit_at es (to i))) (drop_all k edits le) ∙ ends (items_of edits (get_or chosen i None));
  inside = done.inside;
}
  where
    ends : (o : Option (List Item)) → or_else o None ≡ o
    ends None = refl
    ends (Some items) = refl
