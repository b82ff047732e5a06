-- Laws of trees and their new texts that crates above cite.
use Rattle.std.proofs.Common.{◌≡◌, ℕ, suc, ◌+◌, ◌-◌, ◌<◌, ◌≤◌, List, [], ◌∷◌, ◌++◌, length, take, drop, get_or, refl}
use Rattle.std.proofs.Common.{sym, ap, ◌∙◌, append_assoc, append-nil, arith}
use Rattle.std.specs.Prelude.{slice_range, None, unwrap_or, All}
use Rattle.std.proofs.lemmas.List.{drop_more, length-take-le, length-drop}
use Rattle.std.proofs.lemmas.List.Elements.{All-nil, All-cons, All-head, All-tail}
use Rattle.rw_base.specs.declared.tree.Leaf.{Leaf}
use Rattle.rw_base.specs.declared.edit.Item.{Item}
use Rattle.rw_base.specs.declared.edit.Item.TheVariants as item
use Rattle.rw_base.specs.declared.edit.Spot.{Spot}
use Rattle.rw_base.specs.declared.edit.Spot.TheVariants as spot
use Rattle.rw_base.specs.declared.edit.Edit.{Edit}
use Rattle.rw_base.specs.Arena.{Arena, IsTree, Tile, end_from, end_of, leaf_at, no_leaf, first_of, past_of, parts_of}
use Rattle.rw_base.specs.Arena.{prefix_of, text_of, print_of}
use Rattle.rw_base.specs.NewText.{edit_at, node_edit, leaf_edit, leaves_new, leaf_new, node_new, new_text, IsSpot}
use Rattle.rw_base.specs.NewText.{IsItemOf, AreEdits, IsText, IsLeafBelow, AreLeafEdits}
use Rattle.rw_base.specs.Joins.{hold_all, joined_run, joined_slices, empty_slice, whole_slice}
use Rattle.rw_base.specs.EditLaws.{two_spots, new_parts}
use Rattle.rw_base.specs.PartLaws.{by_nodes}

-- leaves end behind the byte at which they begin
pub end_rises : (at : ℕ) (ls : List Leaf) → Tile at ls → at ≤ end_from at ls
end_rises at [] h = omega arith
end_rises at (l ∷ ls) h = omega (arith, end_rises l.to ls h.3, h.0, h.1, h.2)

-- ---- the print

-- leaves that lie one behind another are the bytes from the first to the end of the last
print_from : (bytes : List ℕ) (at : ℕ) (ls : List Leaf) → Tile at ls
    → print_of bytes ls ≡ slice_range bytes at (end_from at ls)
unfolding print_of
print_from bytes at [] h = sym (empty_slice bytes at)
print_from bytes at (l ∷ ls) h =
    ap (λ r. (prefix_of bytes l ++ text_of bytes l) ++ r) (print_from bytes l.to ls h.3)
    ∙ (ap (λ w. w ++ slice_range bytes l.to (end_from l.to ls)) (joined_slices bytes l.prefix_from l.from l.to h.1 h.2)
    ∙ (joined_slices bytes l.prefix_from l.to (end_from l.to ls) (omega (arith, h.1, h.2)) (end_rises l.to ls h.3)
    ∙ ap (λ a. slice_range bytes a (end_from l.to ls)) h.0))

-- the print of a tree is the bytes that it was read from
pub printed : (bytes : List ℕ) (t : Arena) → Tile 0 t.leaves → length bytes ≡ end_of t → print_of bytes t.leaves ≡ bytes
printed bytes t h size = print_from bytes 0 t.leaves h ∙ whole_slice bytes (end_of t) (sym size)

-- ---- edits at leaves alone

-- they are edits of the tree
pub leaf_edits_are_edits : (t : Arena) (edits : List Edit) → AreLeafEdits (length t.leaves) edits → AreEdits t edits
unfolding AreLeafEdits AreEdits
leaf_edits_are_edits t [] all = tt
leaf_edits_are_edits t (e ∷ es) all =
    (at_leaf e.spot all.0, texts e.spot e.items all.1, all.2, leaf_edits_are_edits t es all.3)
  where
    at_leaf : (s : Spot) → IsLeafBelow (length t.leaves) s → IsSpot t s
    at_leaf (spot.Leaf i) below = below
    at_leaf (spot.Node n) below = absurd below

    text : (s : Spot) (i : Item) → IsText i → IsItemOf t s i
    text s (item.Text bytes) is = tt
    text s (item.Node m) is = absurd is
    text s (item.NodeBody m) is = absurd is
    text s (item.Leaf i) is = absurd is
    text s (item.LeafBody i) is = absurd is

    texts : (s : Spot) (is : List Item) → All IsText is → All (IsItemOf t s) is
    texts s [] all = All-nil (IsItemOf t s)
    texts s (i ∷ is) all = All-cons (IsItemOf t s) i is (text s i (All-head IsText i is all))
        (texts s is (All-tail IsText i is all))

-- no node has one of them
pub no_node_edit : (count n : ℕ) (edits : List Edit) → AreLeafEdits count edits → node_edit edits n ≡ None
unfolding AreLeafEdits edit_at
no_node_edit count n [] all = refl
no_node_edit count n (e ∷ es) all =
    rw (two_spots e.spot (spot.Node (record { 0 = n })) (λ same. at_leaf e.spot all.0 same))
    (no_node_edit count n es all.3)
  where
    at_leaf : (s : Spot) → IsLeafBelow count s → s ≡ spot.Node (record { 0 = n }) → ⊥
    at_leaf (spot.Leaf i) below same = cc
    at_leaf (spot.Node m) below same = below

module _ (t : Arena) (tree : IsTree t) (bytes : List ℕ) (edits : List Edit) where
  -- the new texts of the leaves from one on to before another
  abbrev between : ℕ → ℕ → List ℕ
  between a b = leaves_new edits bytes a (slice_range t.leaves a b)

  leaves_append : (i : ℕ) (ks ls : List Leaf)
      → leaves_new edits bytes i (ks ++ ls) ≡ leaves_new edits bytes i ks ++ leaves_new edits bytes (i + length ks) ls
  unfolding leaves_new
  leaves_append i [] ls = ap (λ j. leaves_new edits bytes j ls) (omega arith)
  leaves_append i (l ∷ ks) ls =
      let word = prefix_of bytes l ++ unwrap_or (leaf_edit edits i) (text_of bytes l) in
      let there : (i + 1) + length ks ≡ i + suc (length ks) = omega arith in
      ap (λ w. word ++ w) (leaves_append (i + 1) ks ls
      ∙ ap (λ j. leaves_new edits bytes (i + 1) ks ++ leaves_new edits bytes j ls) there)
      ∙ sym (append_assoc word (leaves_new edits bytes (i + 1) ks) (leaves_new edits bytes (i + suc (length ks)) ls))

  meet : (a b c : ℕ) → a ≤ b → b ≤ c → c ≤ length t.leaves → between a b ++ between b c ≡ between a c
  meet a b c ab bc inside =
      let long : length (slice_range t.leaves a b) ≡ b - a =
      length-take-le (b - a) (drop a t.leaves) (omega (arith, length-drop a t.leaves)) in
      let there : a + length (slice_range t.leaves a b) ≡ b = omega (arith, long) in
      ap (λ j. between a b ++ leaves_new edits bytes j (slice_range t.leaves b c)) (sym there)
      ∙ (sym (leaves_append a (slice_range t.leaves a b) (slice_range t.leaves b c))
      ∙ ap (leaves_new edits bytes a) (joined_slices t.leaves a b c ab bc))

  none : (a : ℕ) → between a a ≡ []
  unfolding leaves_new
  none a = ap (leaves_new edits bytes a) (empty_slice t.leaves a)

  one : (i : ℕ) → i < length t.leaves → leaf_new t bytes edits i ≡ between i (i + 1)
  unfolding leaf_new leaves_new leaf_at
  one i lt =
      let l = get_or t.leaves i no_leaf in
      let size : (i + 1) - i ≡ 1 = omega arith in
      let slice : slice_range t.leaves i (i + 1) ≡ l ∷ [] = ap (λ n. take n (drop i t.leaves)) size
      ∙ ap (take 1) (drop_more t.leaves i no_leaf lt) in
      sym (ap (leaves_new edits bytes i) slice
      ∙ append-nil (prefix_of bytes l ++ unwrap_or (leaf_edit edits i) (text_of bytes l)))

  each_node : AreLeafEdits (length t.leaves) edits → (n : ℕ) → n < length t.nodes
      → node_new t bytes edits n ≡ between (first_of t.nodes n) (past_of t.nodes n)
  each_node all = by_nodes (λ n. n < length t.nodes
      → node_new t bytes edits n ≡ between (first_of t.nodes n) (past_of t.nodes n)) (λ n below lt.
      new_parts t tree bytes edits (leaf_edits_are_edits t edits all) n lt (no_node_edit (length t.leaves) n edits all)
      ∙ joined_run t tree between (leaf_new t bytes edits) (node_new t bytes edits) none meet
      n (parts_of t.nodes n) (first_of t.nodes n) (past_of t.nodes n) (omega arith) (tree.inside n lt)
      (tree.below n lt) (tree.spans n lt)
      (hold_all (length t.leaves) n (λ i. leaf_new t bytes edits i ≡ between i (i + 1))
      (λ m. node_new t bytes edits m ≡ between (first_of t.nodes m) (past_of t.nodes m))
      (parts_of t.nodes n) (tree.below n lt) one (λ m g. below m g (omega arith))))

  -- then the new text is each leaf's prefix and its text or that of its edit, in order
  pub leaf_edits_new : AreLeafEdits (length t.leaves) edits → new_text t bytes edits ≡ leaves_new edits bytes 0 t.leaves
  unfolding new_text
  leaf_edits_new all =
      each_node all t.root tree.root
      ∙ (ap (λ a. between a (past_of t.nodes t.root)) tree.whole.0
      ∙ (ap (between 0) tree.whole.1 ∙ ap (leaves_new edits bytes 0) (whole_slice t.leaves (length t.leaves) refl)))

-- ---- no edits

none_new : (bytes : List ℕ) (i : ℕ) (ls : List Leaf) → leaves_new [] bytes i ls ≡ print_of bytes ls
unfolding leaves_new leaf_edit edit_at print_of
none_new bytes i [] = refl
none_new bytes i (l ∷ ls) = ap (λ r. (prefix_of bytes l ++ text_of bytes l) ++ r) (none_new bytes (i + 1) ls)

-- a tree without edits keeps its bytes
pub new_text-none : (t : Arena) (bytes : List ℕ) → IsTree t → length bytes ≡ end_of t → new_text t bytes [] ≡ bytes
unfolding AreLeafEdits
new_text-none t bytes tree size = leaf_edits_new t tree bytes [] tt
    ∙ (none_new bytes 0 t.leaves ∙ printed bytes t tree.tile size)
