-- A tree as data: its leaves, its nodes and the number of its root.
use Rattle.std.specs.Prelude.{◌≡◌, ℕ, ◌+◌, ◌-◌, ◌<◌, ◌≤◌, ◌^◌, ◌==◌, List, [], ◌∷◌, ◌++◌, length, slice_range}
use Rattle.std.specs.Prelude.{slice_index_or, if◌then◌else◌}
use Rattle.rw_base.specs.declared.tree.Leaf.{Leaf}
use Rattle.rw_base.specs.declared.tree.Part.{Part}
use Rattle.rw_base.specs.declared.tree.Part.TheVariants as part
use Rattle.rw_base.specs.declared.tree.NodeRow.{NodeRow}

pub record Arena : Type 0 where
  pub leaves : List Leaf
  pub nodes : List NodeRow
  pub root : ℕ

-- ---- what one leaf or one node is

abbrev pub no_leaf : Leaf
no_leaf = record { prefix_from = 0; from = 0; to = 0; class = 0 }

-- the row of a node by its kind, its first leaf, the leaf behind its last, and its parts
abbrev pub row_of : ℕ → ℕ → ℕ → List Part → NodeRow
row_of kind first past parts = record { kind = kind; first = first; past = past; parts = parts }

abbrev pub no_row : NodeRow
no_row = row_of 0 0 0 []

-- the leaf or node of a number
unfoldable pub leaf_at : List Leaf → ℕ → Leaf
leaf_at leaves i = slice_index_or leaves i no_leaf

unfoldable pub row_at : List NodeRow → ℕ → NodeRow
row_at nodes n = slice_index_or nodes n no_row

abbrev pub kind_of : List NodeRow → ℕ → ℕ
kind_of nodes n = (row_at nodes n).kind

abbrev pub first_of : List NodeRow → ℕ → ℕ
first_of nodes n = (row_at nodes n).first

abbrev pub past_of : List NodeRow → ℕ → ℕ
past_of nodes n = (row_at nodes n).past

abbrev pub parts_of : List NodeRow → ℕ → List Part
parts_of nodes n = (row_at nodes n).parts

-- a leaf's prefix and its text, in the bytes that the tree was read from
abbrev pub prefix_of : List ℕ → Leaf → List ℕ
prefix_of bytes l = slice_range bytes l.prefix_from l.from

abbrev pub text_of : List ℕ → Leaf → List ℕ
text_of bytes l = slice_range bytes l.from l.to

-- all prefixes and texts in order
unfoldable pub print_of : List ℕ → List Leaf → List ℕ
print_of bytes [] = []
print_of bytes (l ∷ ls) = (prefix_of bytes l ++ text_of bytes l) ++ print_of bytes ls

-- ---- when leaves and nodes are a tree

-- The leaves lie one behind another from this byte on: each prefix begins where the leaf before ends.
abbrev pub Tile : ℕ → List Leaf → Type 0
Tile at [] = Unit {0}
Tile at (l ∷ ls) = (l.prefix_from ≡ at) × (l.prefix_from ≤ l.from) × (l.from ≤ l.to) × Tile l.to ls

-- the byte at which leaves that begin at this byte end
abbrev pub end_from : ℕ → List Leaf → ℕ
end_from at [] = at
end_from at (l ∷ ls) = end_from l.to ls

-- the length of the bytes that a tree was read from
abbrev pub end_of : Arena → ℕ
end_of t = end_from 0 t.leaves

-- The parts of node n: leaves of the tree, and nodes that stand before n.
abbrev pub AreBelow : ℕ → ℕ → List Part → Type 0
AreBelow leaf_count n [] = Unit {0}
AreBelow leaf_count n (part.Leaf i ∷ ps) = (i < leaf_count) × AreBelow leaf_count n ps
AreBelow leaf_count n (part.Node m ∷ ps) = (m.0 < n) × AreBelow leaf_count n ps

-- what holds of each leaf and each node among parts
abbrev pub PartsHold : (ℕ → Type 0) → (ℕ → Type 0) → List Part → Type 0
PartsHold leaf node [] = Unit {0}
PartsHold leaf node (part.Leaf i ∷ ps) = leaf i × PartsHold leaf node ps
PartsHold leaf node (part.Node m ∷ ps) = node m.0 × PartsHold leaf node ps

-- The leaves of the parts, in order, are those from first to before past.
abbrev pub Runs : List NodeRow → List Part → ℕ → ℕ → Type 0
Runs nodes [] first past = first ≡ past
Runs nodes (part.Leaf i ∷ ps) first past = (i ≡ first) × Runs nodes ps (first + 1) past
Runs nodes (part.Node m ∷ ps) first past = (first_of nodes m.0 ≡ first) × Runs nodes ps (past_of nodes m.0) past

-- how often a node is among parts, and among the parts of all nodes
abbrev pub times_in : ℕ → List Part → ℕ
times_in n [] = 0
times_in n (part.Leaf i ∷ ps) = times_in n ps
times_in n (part.Node m ∷ ps) = (if m.0 == n then 1 else 0) + times_in n ps

abbrev pub times : ℕ → List NodeRow → ℕ
times n [] = 0
times n (r ∷ rs) = times_in n r.parts + times n rs

-- A tree. With `once` and `whole` each leaf is a part exactly once too.
pub record IsTree (t : Arena) : Type 0 where
  pub some_leaf : 0 < length t.leaves
  pub leaf_count : length t.leaves < 2 ^ 32
  pub node_count : length t.nodes < 2 ^ 32
  pub root : t.root < length t.nodes
  pub tile : Tile 0 t.leaves
  pub empty_end : (leaf_at t.leaves (length t.leaves - 1)).from ≡ end_of t
  pub below : (n : ℕ) → n < length t.nodes → AreBelow (length t.leaves) n (parts_of t.nodes n)
  pub ordered : (n : ℕ) → n < length t.nodes → first_of t.nodes n ≤ past_of t.nodes n
  pub inside : (n : ℕ) → n < length t.nodes → past_of t.nodes n ≤ length t.leaves
  pub spans : (n : ℕ) → n < length t.nodes
      → Runs t.nodes (parts_of t.nodes n) (first_of t.nodes n) (past_of t.nodes n)
  pub once : (n : ℕ) → n < length t.nodes → times n t.nodes ≡ (if n == t.root then 0 else 1)
  pub whole : (first_of t.nodes t.root ≡ 0) × (past_of t.nodes t.root ≡ length t.leaves)
