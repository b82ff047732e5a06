-- The new text of a tree with edits.
use Rattle.std.specs.Prelude.{◌≡◌, ◌≢◌, ℕ, ◌+◌, ◌<◌, ◌≤◌, ◌==◌, Bool, false, List, [], ◌∷◌, ◌++◌, length, take, drop}
use Rattle.std.specs.Prelude.{Option, Some, None, option_map, unwrap_or, All, if◌then◌else◌}
use Rattle.std.specs.Str.{bytes_eq}
use Rattle.rw_base.specs.declared.tree.Leaf.{Leaf}
use Rattle.rw_base.specs.declared.tree.Part.{Part}
use Rattle.rw_base.specs.declared.tree.Part.TheVariants as part
use Rattle.rw_base.specs.declared.edit.Item.{Item}
use Rattle.rw_base.specs.declared.edit.Item.TheVariants as item
use Rattle.rw_base.specs.declared.edit.Spot.{Spot}
use Rattle.rw_base.specs.declared.edit.Spot.TheVariants as spot
use Rattle.rw_base.specs.declared.edit.Edit.{Edit}
use Rattle.rw_base.specs.Arena.{Arena, leaf_at, first_of, past_of, prefix_of, text_of}
use Rattle.rw_base.specs.Rows.{value}

-- ---- what is put where

abbrev pub same_spot : Spot → Spot → Bool
same_spot (spot.Node n) (spot.Node m) = n.0 == m.0
same_spot (spot.Leaf i) (spot.Leaf j) = i == j
same_spot (spot.Node n) (spot.Leaf j) = false
same_spot (spot.Leaf i) (spot.Node m) = false

-- the items of the edit at a spot, where there is one
unfoldable pub edit_at : List Edit → Spot → Option (List Item)
edit_at [] s = None
edit_at (e ∷ es) s = if same_spot e.spot s then Some e.items else edit_at es s

-- the edits' items at a node
abbrev pub node_edit : List Edit → ℕ → Option (List Item)
node_edit edits n = edit_at edits (spot.Node (record { 0 = n }))

-- the texts of a leaf's edit, joined
abbrev pub item_text : Item → List ℕ
item_text (item.Text t) = t
item_text _ = []

abbrev pub items_text : List Item → List ℕ
items_text [] = []
items_text (i ∷ is) = item_text i ++ items_text is

-- what the edits put in the place of a leaf's text, where one of them is at that leaf
unfoldable pub leaf_edit : List Edit → ℕ → Option (List ℕ)
leaf_edit edits i = option_map items_text (edit_at edits (spot.Leaf i))

-- ---- the new text of leaves and nodes

-- a text without these bytes at its front, where it begins with them
unfoldable pub without_front : List ℕ → List ℕ → List ℕ
without_front front text = if bytes_eq front (take (length front) text) then drop (length front) text else text

-- the prefix of a node's first leaf; none where it has no leaf
unfoldable pub front_of : Arena → List ℕ → ℕ → List ℕ
front_of t bytes n =
    let first = first_of t.nodes n in
    if first == past_of t.nodes n then [] else prefix_of bytes (leaf_at t.leaves first)

-- parts one after another, by what each leaf and each node gives
abbrev pub join_parts : {A : Type 0} → (ℕ → List A) → (ℕ → List A) → List Part → List A
join_parts leaf node [] = []
join_parts leaf node (part.Leaf i ∷ ps) = leaf i ++ join_parts leaf node ps
join_parts leaf node (part.Node m ∷ ps) = node m.0 ++ join_parts leaf node ps

-- A tree that was read from these bytes, with edits.
module _ (t : Arena) (bytes : List ℕ) (edits : List Edit) where
  -- a leaf keeps its prefix, and has the text of its edit, or its own
  unfoldable pub leaf_new : ℕ → List ℕ
  leaf_new i =
      let l = leaf_at t.leaves i in
      prefix_of bytes l ++ unwrap_or (leaf_edit edits i) (text_of bytes l)

  -- an item, where each node has this text
  abbrev pub item_new : (ℕ → List ℕ) → Item → List ℕ
  item_new f (item.Text s) = s
  item_new f (item.Node m) = f m.0
  item_new f (item.NodeBody m) = without_front (front_of t bytes m.0) (f m.0)
  item_new f (item.Leaf i) = leaf_new i
  item_new f (item.LeafBody i) = without_front (prefix_of bytes (leaf_at t.leaves i)) (leaf_new i)

  abbrev pub items_new : (ℕ → List ℕ) → List Item → List ℕ
  items_new f [] = []
  items_new f (i ∷ is) = item_new f i ++ items_new f is

  -- a node joins the items of its edit, or else its parts
  abbrev pub row_new : (ℕ → List ℕ) → Option (List Item) → List Part → List ℕ
  row_new f None parts = join_parts leaf_new f parts
  row_new f (Some items) parts = items_new f items

  unfoldable pub node_new : ℕ → List ℕ
  node_new n = value [] (λ k r f. row_new f (node_edit edits k) r.parts) t.nodes n

-- the new text of the whole
unfoldable pub new_text : Arena → List ℕ → List Edit → List ℕ
new_text t bytes edits = node_new t bytes edits t.root

-- ---- which edits these are

abbrev pub IsSpot : Arena → Spot → Type 0
IsSpot t (spot.Node n) = n.0 < length t.nodes
IsSpot t (spot.Leaf i) = i < length t.leaves

-- A node's items name leaves, and nodes that stand before it, as all nodes below it do. A leaf's items are texts.
abbrev pub IsItemOf : Arena → Spot → Item → Type 0
IsItemOf t s (item.Text bytes) = Unit {0}
IsItemOf t (spot.Node n) (item.Node m) = m.0 < n.0
IsItemOf t (spot.Node n) (item.NodeBody m) = m.0 < n.0
IsItemOf t (spot.Node n) (item.Leaf i) = i < length t.leaves
IsItemOf t (spot.Node n) (item.LeafBody i) = i < length t.leaves
IsItemOf t (spot.Leaf j) (item.Node m) = ⊥
IsItemOf t (spot.Leaf j) (item.NodeBody m) = ⊥
IsItemOf t (spot.Leaf j) (item.Leaf i) = ⊥
IsItemOf t (spot.Leaf j) (item.LeafBody i) = ⊥

-- Each edit is at a node or leaf of the tree and has items for it, and no two are at one spot.
unfoldable pub AreEdits : Arena → List Edit → Type 0
AreEdits t [] = Unit {0}
AreEdits t (e ∷ es) =
    IsSpot t e.spot × All (IsItemOf t e.spot) e.items × All (λ f. f.spot ≢ e.spot) es × AreEdits t es

-- edits that put the same at each spot
abbrev pub AreSameEdits : List Edit → List Edit → Type 0
AreSameEdits es fs = (s : Spot) → edit_at es s ≡ edit_at fs s

-- Each edit is at a spot of the tree, has items for it, and has a greater rank than those before it, this one at least.
unfoldable pub AreRanked : Arena → (Spot → ℕ) → ℕ → List Edit → Type 0
AreRanked t rank from [] = Unit {0}
AreRanked t rank from (e ∷ es) =
    (from ≤ rank e.spot) × IsSpot t e.spot × All (IsItemOf t e.spot) e.items × AreRanked t rank (rank e.spot + 1) es

-- ---- edits at leaves alone

-- Each leaf has its prefix, and then the text of its edit, or its own text. The first leaf here is number i.
unfoldable pub leaves_new : List Edit → List ℕ → ℕ → List Leaf → List ℕ
leaves_new edits bytes i [] = []
leaves_new edits bytes i (l ∷ ls) =
    (prefix_of bytes l ++ unwrap_or (leaf_edit edits i) (text_of bytes l)) ++ leaves_new edits bytes (i + 1) ls

abbrev pub IsLeafBelow : ℕ → Spot → Type 0
IsLeafBelow count (spot.Leaf k) = k < count
IsLeafBelow count (spot.Node n) = ⊥

abbrev pub IsText : Item → Type 0
IsText (item.Text t) = Unit {0}
IsText _ = ⊥

-- Each edit is at a leaf of the tree and has texts alone, and no two are at one leaf.
unfoldable pub AreLeafEdits : ℕ → List Edit → Type 0
AreLeafEdits count [] = Unit {0}
AreLeafEdits count (e ∷ es) =
    IsLeafBelow count e.spot × All IsText e.items × All (λ f. f.spot ≢ e.spot) es × AreLeafEdits count es
