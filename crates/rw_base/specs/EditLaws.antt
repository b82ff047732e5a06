-- The new text of a node by its row, and its gaps and ranges.
use Rattle.std.proofs.Common.{◌≡◌, ◌≢◌, ℕ, ◌+◌, ◌<◌, true, false, List, [], ◌∷◌, ◌++◌, length, refl, sym, ap, subst}
use Rattle.std.proofs.Common.{◌∙◌, append_assoc, append-nil, arith, inl, inr}
use Rattle.std.specs.Prelude.{Option, Some, None, unwrap_or, All}
use Rattle.std.proofs.lemmas.Bool.{cases_Bool, eqb-true, eq-eqb, false≢true}
use Rattle.std.proofs.lemmas.List.Elements.{All-tail, All-head}
use Rattle.rw_base.specs.declared.tree.Leaf.{Leaf}
use Rattle.rw_base.specs.declared.tree.Part.{Part}
use Rattle.rw_base.specs.declared.edit.Item.{Item}
use Rattle.rw_base.specs.declared.edit.Item.TheVariants as item
use Rattle.rw_base.specs.declared.edit.Spot.{Spot}
use Rattle.rw_base.specs.declared.edit.Spot.TheVariants as spot
use Rattle.rw_base.specs.declared.edit.Edit.{Edit}
use Rattle.rw_base.specs.Arena.{Arena, IsTree, AreBelow, row_at, leaf_at, first_of, past_of, parts_of, prefix_of}
use Rattle.rw_base.specs.Arena.{text_of, end_of}
use Rattle.rw_base.specs.RowLaws.{value_at}
use Rattle.rw_base.specs.NewText.{same_spot, edit_at, node_edit, leaf_edit, without_front, front_of, join_parts}
use Rattle.rw_base.specs.NewText.{leaf_new, item_new, items_new, row_new, node_new, new_text, IsItemOf, AreEdits}
use Rattle.rw_base.specs.Gaps.{start_of, range_of, Piece, gap, range, old_bytes, new_bytes, leaf_split, leaf_pieces}
use Rattle.rw_base.specs.Gaps.{row_pieces, node_pieces, pieces_of}
use Rattle.rw_base.specs.Arena.{PartsHold}
use Rattle.rw_base.specs.Joins.{hold_all, joined_same, joined_reads, joined_map, joined_run, empty_slice}
use Rattle.rw_base.specs.Starts.{leaf_range, ranges_meet, one_range, whole_range}
use Rattle.rw_base.specs.PartLaws.{row_get, by_nodes}

-- ---- edits by their spots

pub one_spot : (s u : Spot) → same_spot s u ≡ true → s ≡ u
one_spot (spot.Node n) (spot.Node m) e = ap (λ k. spot.Node (record { 0 = k })) (eqb-true n.0 m.0 e)
one_spot (spot.Leaf i) (spot.Leaf j) e = ap spot.Leaf (eqb-true i j e)
one_spot (spot.Node n) (spot.Leaf j) e = absurd (false≢true e)
one_spot (spot.Leaf i) (spot.Node m) e = absurd (false≢true e)

pub spot_is_itself : (s : Spot) → same_spot s s ≡ true
spot_is_itself (spot.Node n) = eq-eqb n.0 n.0 refl
spot_is_itself (spot.Leaf i) = eq-eqb i i refl

pub two_spots : (s u : Spot) → s ≢ u → same_spot s u ≡ false
two_spots s u ne = elim (cases_Bool (same_spot s u)) [ inl e ↦ absurd (ne (one_spot s u e)) | inr e ↦ e ]

pub edit_here : (e : Edit) (es : List Edit) → edit_at (e ∷ es) e.spot ≡ Some e.items
unfolding edit_at
edit_here e es = rw (spot_is_itself e.spot) refl

pub edit_later : (e : Edit) (es : List Edit) (s : Spot) → e.spot ≢ s → edit_at (e ∷ es) s ≡ edit_at es s
unfolding edit_at
edit_later e es s ne = rw (two_spots e.spot s ne) refl

-- an edit's items are for its spot
pub items_fit : (t : Arena) (es : List Edit) (s : Spot) (is : List Item) → AreEdits t es → edit_at es s ≡ Some is
    → All (IsItemOf t s) is
unfolding edit_at AreEdits
items_fit t [] s is fit h = absurd (cc)
items_fit t (e ∷ es) s is fit h = elim (cases_Bool (same_spot e.spot s)) [
  | inl same ↦
      let here : Some e.items ≡ Some is = rw same at h in
      let items : e.items ≡ is = cc in
      subst (All (IsItemOf t s)) items (subst (λ u. All (IsItemOf t u) e.items) (one_spot e.spot s same) fit.1)
  | inr other ↦ items_fit t es s is fit.3 (rw other at h)
]

-- ---- a node by its row

module _ (t : Arena) (tree : IsTree t) (bytes : List ℕ) (edits : List Edit) (fit : AreEdits t edits) where
  item_reads : (n : ℕ) (i : Item) → IsItemOf t (spot.Node (record { 0 = n })) i → (f h : ℕ → List ℕ)
      → ((m : ℕ) → m < n → f m ≡ h m) → item_new t bytes edits f i ≡ item_new t bytes edits h i
  item_reads n (item.Text s) b f h q = refl
  item_reads n (item.Node m) b f h q = q m.0 b
  item_reads n (item.NodeBody m) b f h q = ap (without_front (front_of t bytes m.0)) (q m.0 b)
  item_reads n (item.Leaf i) b f h q = refl
  item_reads n (item.LeafBody i) b f h q = refl

  items_read : (n : ℕ) (is : List Item) → All (IsItemOf t (spot.Node (record { 0 = n }))) is → (f h : ℕ → List ℕ)
      → ((m : ℕ) → m < n → f m ≡ h m) → items_new t bytes edits f is ≡ items_new t bytes edits h is
  items_read n [] all f h q = refl
  items_read n (i ∷ is) all f h q =
      ap (λ w. w ++ items_new t bytes edits f is)
      (item_reads n i (All-head (IsItemOf t (spot.Node (record { 0 = n }))) i is all) f h q)
      ∙ ap (λ w. item_new t bytes edits h i ++ w)
      (items_read n is (All-tail (IsItemOf t (spot.Node (record { 0 = n }))) i is all) f h q)

  row_reads : (n : ℕ) (o : Option (List Item)) (ps : List Part) → node_edit edits n ≡ o
      → AreBelow (length t.leaves) n ps → (f h : ℕ → List ℕ) → ((m : ℕ) → m < n → f m ≡ h m)
      → row_new t bytes edits f o ps ≡ row_new t bytes edits h o ps
  row_reads n None ps e b f h q = joined_reads (length t.leaves) n (leaf_new t bytes edits) f h ps b q
  row_reads n (Some is) ps e b f h q = items_read n is (items_fit t edits (spot.Node (record { 0 = n })) is fit e) f h q

  -- a node's new text, by those of the nodes before it
  pub new_at : (n : ℕ) → n < length t.nodes
      → node_new t bytes edits n ≡ row_new t bytes edits (node_new t bytes edits) (node_edit edits n)
      (parts_of t.nodes n)
  unfolding node_new
  new_at n lt = value_at [] (λ k r f. row_new t bytes edits f (node_edit edits k) r.parts) t.nodes n
      (row_at t.nodes n) (row_get t.nodes n lt)
      (λ f h q. row_reads n (node_edit edits n) (parts_of t.nodes n) refl (tree.below n lt) f h q)

  pub new_parts : (n : ℕ) → n < length t.nodes → node_edit edits n ≡ None
      → node_new t bytes edits n ≡ join_parts (leaf_new t bytes edits) (node_new t bytes edits) (parts_of t.nodes n)
  new_parts n lt e = new_at n lt ∙ ap (λ o. row_new t bytes edits (node_new t bytes edits) o (parts_of t.nodes n)) e

  pub new_items : (n : ℕ) (is : List Item) → n < length t.nodes → node_edit edits n ≡ Some is
      → node_new t bytes edits n ≡ items_new t bytes edits (node_new t bytes edits) is
  new_items n is lt e = new_at n lt ∙ ap (λ o. row_new t bytes edits (node_new t bytes edits) o (parts_of t.nodes n)) e

  -- ---- what isn't edited

  pub same_leaf : (i : ℕ) → i < length t.leaves → leaf_edit edits i ≡ None
      → leaf_new t bytes edits i ≡ leaf_range t.leaves bytes i (i + 1)
  unfolding leaf_new
  same_leaf i lt e = ap (λ o. prefix_of bytes (leaf_at t.leaves i)
      ++ unwrap_or o (text_of bytes (leaf_at t.leaves i))) e ∙ one_range t.leaves bytes tree.tile i lt

  -- a node without an edit, whose leaves and nodes keep their bytes, keeps its own
  pub same_node : (n : ℕ) → n < length t.nodes → node_edit edits n ≡ None
      → PartsHold (λ i. leaf_new t bytes edits i ≡ leaf_range t.leaves bytes i (i + 1))
      (λ m. node_new t bytes edits m ≡ range_of t bytes m) (parts_of t.nodes n)
      → node_new t bytes edits n ≡ range_of t bytes n
  same_node n lt e same =
      new_parts n lt e
      ∙ joined_run t tree (leaf_range t.leaves bytes) (leaf_new t bytes edits) (node_new t bytes edits)
      (λ a. empty_slice bytes (start_of t.leaves a)) (λ a b c ab bc _. ranges_meet t.leaves bytes tree.tile a b c ab bc)
      n (parts_of t.nodes n) (first_of t.nodes n) (past_of t.nodes n) (omega arith) (tree.inside n lt)
      (tree.below n lt) (tree.spans n lt) same

  -- ---- gaps and ranges

  pieces_at : (n : ℕ) → n < length t.nodes
      → node_pieces t bytes edits n ≡ row_pieces t bytes edits n (node_pieces t bytes edits) (node_edit edits n)
      (parts_of t.nodes n)
  unfolding node_pieces
  pieces_at n lt = value_at [] (λ k r f. row_pieces t bytes edits k f (node_edit edits k) r.parts) t.nodes n
      (row_at t.nodes n) (row_get t.nodes n lt)
      (λ f h q. reads (node_edit edits n) f h q)
    where
      reads : (o : Option (List Item)) (f h : ℕ → List Piece) → ((m : ℕ) → m < n → f m ≡ h m)
          → row_pieces t bytes edits n f o (parts_of t.nodes n) ≡ row_pieces t bytes edits n h o (parts_of t.nodes n)
      reads None f h q = joined_reads (length t.leaves) n (leaf_pieces t bytes edits) f h (parts_of t.nodes n)
          (tree.below n lt) q
      reads (Some is) f h q = refl

  old_append : (xs ys : List Piece) → old_bytes (xs ++ ys) ≡ old_bytes xs ++ old_bytes ys
  old_append [] ys = refl
  old_append (gap w ∷ xs) ys = ap (λ z. w ++ z) (old_append xs ys) ∙ sym (append_assoc w (old_bytes xs) (old_bytes ys))
  old_append (range w v ∷ xs) ys = ap (λ z. w ++ z) (old_append xs ys)
      ∙ sym (append_assoc w (old_bytes xs) (old_bytes ys))

  new_append : (xs ys : List Piece) → new_bytes (xs ++ ys) ≡ new_bytes xs ++ new_bytes ys
  new_append [] ys = refl
  new_append (gap w ∷ xs) ys = ap (λ z. w ++ z) (new_append xs ys) ∙ sym (append_assoc w (new_bytes xs) (new_bytes ys))
  new_append (range w v ∷ xs) ys = ap (λ z. v ++ z) (new_append xs ys)
      ∙ sym (append_assoc v (new_bytes xs) (new_bytes ys))

  leaf_old : (i : ℕ) → i < length t.leaves
      → old_bytes (leaf_pieces t bytes edits i) ≡ leaf_range t.leaves bytes i (i + 1)
  leaf_old i lt = split (leaf_at t.leaves i) (leaf_edit edits i) ∙ one_range t.leaves bytes tree.tile i lt
    where
      split : (l : Leaf) (o : Option (List ℕ))
          → old_bytes (leaf_split t bytes edits l o) ≡ prefix_of bytes l ++ text_of bytes l
      split l None = append-nil (prefix_of bytes l ++ text_of bytes l)
      split l (Some text) = ap (λ w. prefix_of bytes l ++ w) (append-nil (text_of bytes l))

  leaf_gives : (i : ℕ) → new_bytes (leaf_pieces t bytes edits i) ≡ leaf_new t bytes edits i
  unfolding leaf_new
  leaf_gives i = split (leaf_at t.leaves i) (leaf_edit edits i)
    where
      split : (l : Leaf) (o : Option (List ℕ))
          → new_bytes (leaf_split t bytes edits l o) ≡ prefix_of bytes l ++ unwrap_or o (text_of bytes l)
      split l None = append-nil (prefix_of bytes l ++ text_of bytes l)
      split l (Some text) = ap (λ w. prefix_of bytes l ++ w) (append-nil text)

  -- The old bytes of a node are its gaps and ranges, and its new text the same gaps with the new texts in the place
  -- of the ranges.
  pub record KeepsGaps (n : ℕ) : Type 0 where
    pub old : old_bytes (node_pieces t bytes edits n) ≡ range_of t bytes n
    pub new : new_bytes (node_pieces t bytes edits n) ≡ node_new t bytes edits n

  keeps : (n : ℕ) → n < length t.nodes → KeepsGaps n
  keeps = by_nodes (λ n. n < length t.nodes → KeepsGaps n) step
    where
      by_row : (n : ℕ) → n < length t.nodes → ((m : ℕ) → m < n → KeepsGaps m) → (o : Option (List Item))
          → node_edit edits n ≡ o → KeepsGaps n
      by_row n lt below None e =
          let pieces : node_pieces t bytes edits n ≡ join_parts (leaf_pieces t bytes edits)
          (node_pieces t bytes edits) (parts_of t.nodes n) =
          pieces_at n lt ∙ ap (λ o. row_pieces t bytes edits n (node_pieces t bytes edits) o (parts_of t.nodes n)) e in
          record {
            old = ap old_bytes pieces
                ∙ (joined_map old_bytes (leaf_pieces t bytes edits) (node_pieces t bytes edits)
                (parts_of t.nodes n) refl old_append
                ∙ joined_run t tree (leaf_range t.leaves bytes) (λ i. old_bytes (leaf_pieces t bytes edits i))
                (λ m. old_bytes (node_pieces t bytes edits m))
                (λ a. empty_slice bytes (start_of t.leaves a))
                (λ a b c ab bc _. ranges_meet t.leaves bytes tree.tile a b c ab bc)
                n (parts_of t.nodes n) (first_of t.nodes n) (past_of t.nodes n) (omega arith) (tree.inside n lt)
                (tree.below n lt) (tree.spans n lt)
                (hold_all (length t.leaves) n (λ i. old_bytes
                (leaf_pieces t bytes edits i) ≡ leaf_range t.leaves bytes i (i + 1))
                (λ m. old_bytes (node_pieces t bytes edits m) ≡ range_of t bytes m)
                (parts_of t.nodes n) (tree.below n lt) leaf_old (λ m g. (below m g).old)));
            new = ap new_bytes pieces
                ∙ (joined_map new_bytes (leaf_pieces t bytes edits) (node_pieces t bytes edits)
                (parts_of t.nodes n) refl new_append
                ∙ (joined_same (λ i. new_bytes (leaf_pieces t bytes edits i)) (leaf_new t bytes edits)
                (λ m. new_bytes (node_pieces t bytes edits m)) (node_new t bytes edits) (parts_of t.nodes n)
                (hold_all (length t.leaves) n (λ i. new_bytes
                (leaf_pieces t bytes edits i) ≡ leaf_new t bytes edits i)
                (λ m. new_bytes (node_pieces t bytes edits m) ≡ node_new t bytes edits m)
                (parts_of t.nodes n) (tree.below n lt) (λ i _. leaf_gives i) (λ m g. (below m g).new))
                ∙ sym (new_parts n lt e)));
          }
      by_row n lt below (Some is) e =
          let pieces : node_pieces t bytes edits n ≡ range (range_of t bytes n) (node_new t bytes edits n) ∷ [] =
          pieces_at n lt ∙ ap (λ o. row_pieces t bytes edits n (node_pieces t bytes edits) o (parts_of t.nodes n)) e in
          record {
            old = ap old_bytes pieces ∙ append-nil (range_of t bytes n);
            new = ap new_bytes pieces ∙ append-nil (node_new t bytes edits n);
          }

      step : (n : ℕ) → ((m : ℕ) → m < n → m < length t.nodes → KeepsGaps m) → n < length t.nodes → KeepsGaps n
      step n below lt = by_row n lt (λ m g. below m g (omega arith)) (node_edit edits n) refl

  -- the same of the whole
  pub gaps_old : length bytes ≡ end_of t → old_bytes (pieces_of t bytes edits) ≡ bytes
  unfolding pieces_of
  gaps_old size =
      (keeps t.root tree.root).old
      ∙ (ap (λ a. leaf_range t.leaves bytes a (past_of t.nodes t.root)) tree.whole.0
      ∙ (ap (leaf_range t.leaves bytes 0) tree.whole.1 ∙ whole_range t bytes size))

  pub gaps_new : new_bytes (pieces_of t bytes edits) ≡ new_text t bytes edits
  unfolding pieces_of new_text
  gaps_new = (keeps t.root tree.root).new
