-- Which nodes are touched, one part and one node after another.
use Rattle.std.proofs.Common.{◌≡◌, ℕ, ◌+◌, ◌<◌, ◌≤◌, Bool, true, false, List, [], ◌∷◌, ◌++◌, length, drop, get_or, refl, sym, ap, subst, ◌∙◌, arith, ◌⊎◌, inl, inr}
use Rattle.std.specs.Prelude.{Option, Some, None, is_some, All}
use Rattle.std.proofs.lemmas.List.{drop_more, drop_all, get_or_default, get_or_append_left, get_or_push}
use Rattle.std.proofs.lemmas.List.Elements.{All-weaker}
use Rattle.std.proofs.lemmas.Bool.{cases_eq}
use Rattle.rw_base.specs.declared.tree.Part.{Part}
use Rattle.rw_base.specs.declared.tree.Part.TheVariants as part
use Rattle.rw_base.specs.declared.tree.NodeId.{NodeId}
use Rattle.rw_base.specs.declared.edit.Edit.{Edit}
use Rattle.rw_base.specs.declared.edit.Item.{Item}
use Rattle.rw_base.specs.declared.edit.Item.TheVariants as item
use Rattle.rw_base.specs.declared.edit.Spot.{Spot}
use Rattle.rw_base.specs.declared.edit.Spot.TheVariants as spot
use Rattle.rw_base.specs.Arena.{Arena, AreBelow, parts_of}
use Rattle.rw_base.specs.NewText.{IsSpot, IsItemOf, AreEdits, IsLeafBelow, IsText, AreLeafEdits}
use Rattle.rw_base.specs.PartLaws.{below_next, leaf_below, node_below}
use Rattle.rw_base.specs.Chosen.{AreUntouched, KnowsUntouched}

pub none_if_not_some : (o : Option ℕ) → is_some o ≡ false → o ≡ None
none_if_not_some None e = refl
none_if_not_some (Some x) e = absurd (cc)

-- ---- parts

-- What is left to see of the parts, and that no part so far is touched.
pub record IsSeeing (leaves : List (Option ℕ)) (touched : List Bool) (ps : List Part) (k : ℕ) : Type 0 where
  pub below : AreBelow (length leaves) (length touched) (drop k ps)
  pub rest : AreUntouched leaves touched (drop k ps) → AreUntouched leaves touched ps

module _ (leaves : List (Option ℕ)) (touched : List Bool) (ps : List Part) (k : ℕ) (lt : k < length ps) (so_far : IsSeeing leaves touched ps k) where
  pub see_leaf : (i : ℕ) (p : Part) (d : Option ℕ) → get_or ps k p ≡ part.Leaf i → is_some (get_or leaves i d) ≡ false → IsSeeing leaves touched ps (k + 1)
  see_leaf i p d e free =
      let inside = leaf_below (length leaves) (length touched) ps k p i so_far.below lt e in
      let here : get_or leaves i None ≡ None = get_or_default leaves i None d inside ∙ none_if_not_some (get_or leaves i d) free in
      record {
        below = below_next (length leaves) (length touched) ps k so_far.below lt;
        rest = λ more. so_far.rest (subst (AreUntouched leaves touched) (sym (drop_more ps k p lt ∙ ap (λ x. x ∷ drop (k + 1) ps) e)) (here, more));
      }

  pub see_node : (m : NodeId) (p : Part) (d : Bool) → get_or ps k p ≡ part.Node m → get_or touched m.0 d ≡ false → IsSeeing leaves touched ps (k + 1)
  see_node m p d e free =
      let inside = node_below (length leaves) (length touched) ps k p m so_far.below lt e in
      let here : get_or touched m.0 true ≡ false = get_or_default touched m.0 true d inside ∙ free in
      record {
        below = below_next (length leaves) (length touched) ps k so_far.below lt;
        rest = λ more. so_far.rest (subst (AreUntouched leaves touched) (sym (drop_more ps k p lt ∙ ap (λ x. x ∷ drop (k + 1) ps) e)) (here, more));
      }

pub all_seen : (leaves : List (Option ℕ)) (touched : List Bool) (ps : List Part) (k : ℕ) → length ps ≤ k → IsSeeing leaves touched ps k → AreUntouched leaves touched ps
all_seen leaves touched ps k le done = done.rest (subst (AreUntouched leaves touched) (sym (drop_all k ps le)) tt)

-- ---- nodes

-- more nodes that are known change nothing for parts below a node
untouched_more : (leaf_count n : ℕ) (leaves : List (Option ℕ)) (touched : List Bool) (b : Bool) (ps : List Part) → n ≤ length touched → AreBelow leaf_count n ps → AreUntouched leaves touched ps → AreUntouched leaves (touched ++ b ∷ []) ps
untouched_more leaf_count n leaves touched b [] le below u = tt
untouched_more leaf_count n leaves touched b (part.Leaf i ∷ ps) le below u = (u.0, untouched_more leaf_count n leaves touched b ps le below.1 u.1)
untouched_more leaf_count n leaves touched b (part.Node m ∷ ps) le below u =
    (get_or_append_left touched (b ∷ []) true m.0 (omega (arith, below.0)) ∙ u.0, untouched_more leaf_count n leaves touched b ps le below.1 u.1)

module _ (t : Arena) (below : (n : ℕ) → n < length t.nodes → AreBelow (length t.leaves) n (parts_of t.nodes n)) (leaves nodes : List (Option ℕ)) (touched : List Bool) (n : ℕ) (b : Bool) (lt : n < length t.nodes) (long : length touched ≡ n) (so_far : KnowsUntouched t leaves nodes n touched) where
  -- one node more
  pub knows_more : (b ≡ false → (get_or nodes n None ≡ None) × AreUntouched leaves touched (parts_of t.nodes n)) → KnowsUntouched t leaves nodes (n + 1) (touched ++ b ∷ [])
  knows_more here m in_front e = by_place (cases_eq m n)
    where
      by_place : (m ≡ n) ⊎ (m ≡ n → ⊥) → (get_or nodes m None ≡ None) × AreUntouched leaves (touched ++ b ∷ []) (parts_of t.nodes m)
      by_place (inl same) =
          let free : b ≡ false = sym (get_or_push touched b true m (long ∙ sym same)) ∙ e in
          subst (λ k. (get_or nodes k None ≡ None) × AreUntouched leaves (touched ++ b ∷ []) (parts_of t.nodes k)) (sym same)
          ((here free).0, untouched_more (length t.leaves) n leaves touched b (parts_of t.nodes n) (omega arith) (below n lt) (here free).1)
      by_place (inr other) =
          let before : m < n = omega arith in
          let u = so_far m before (sym (get_or_append_left touched (b ∷ []) true m (omega arith)) ∙ e) in
          (u.0, untouched_more (length t.leaves) m leaves touched b (parts_of t.nodes m) (omega arith) (below m (omega arith)) u.1)

-- ---- edits at leaves alone

-- what is left to see of the edits
abbrev pub AreLeftAtLeaves : Arena → List Edit → ℕ → Type 0
AreLeftAtLeaves t edits k = AreEdits t (drop k edits) × (AreLeafEdits (length t.leaves) (drop k edits) → AreLeafEdits (length t.leaves) edits)

pub leaf_seen : (t : Arena) (edits : List Edit) (k : ℕ) (d : Edit) → k < length edits → AreLeftAtLeaves t edits k → ((n : NodeId) → (get_or edits k d).spot ≡ spot.Node n → ⊥) → AreLeftAtLeaves t edits (k + 1)
unfolding AreEdits AreLeafEdits
leaf_seen t edits k d lt left no_node =
    let e = get_or edits k d in
    let cut = drop_more edits k d lt in
    let fit : AreEdits t (e ∷ drop (k + 1) edits) = subst (AreEdits t) cut left.0 in
    (fit.3, λ more. left.1 (subst (AreLeafEdits (length t.leaves)) (sym cut) (at_leaf e.spot no_node fit.0, texts e.spot e.items no_node fit.1, fit.2, more)))
  where
    at_leaf : (s : Spot) → ((n : NodeId) → s ≡ spot.Node n → ⊥) → IsSpot t s → IsLeafBelow (length t.leaves) s
    at_leaf (spot.Leaf i) other at = at
    at_leaf (spot.Node n) other at = absurd (other n refl)

    text : (s : Spot) (i : Item) → ((n : NodeId) → s ≡ spot.Node n → ⊥) → IsItemOf t s i → IsText i
    text (spot.Node n) i never is = absurd ((never n) refl)
    text (spot.Leaf j) (item.Text w) never is = tt
    text (spot.Leaf j) (item.Node m) never is = absurd is
    text (spot.Leaf j) (item.NodeBody m) never is = absurd is
    text (spot.Leaf j) (item.Leaf i) never is = absurd is
    text (spot.Leaf j) (item.LeafBody i) never is = absurd is

    texts : (s : Spot) (is : List Item) → ((n : NodeId) → s ≡ spot.Node n → ⊥) → All (IsItemOf t s) is → All IsText is
    texts s is never all = All-weaker (IsItemOf t s) IsText (λ i. text s i never) is all

pub none_left_at_leaves : (t : Arena) (edits : List Edit) (k : ℕ) → length edits ≤ k → AreLeftAtLeaves t edits k → AreLeafEdits (length t.leaves) edits
unfolding AreLeafEdits
none_left_at_leaves t edits k le left = left.1 (subst (AreLeafEdits (length t.leaves)) (sym (drop_all k edits le)) tt)
