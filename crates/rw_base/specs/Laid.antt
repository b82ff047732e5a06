-- Trees as the rows of an arena, and back.
use Rattle.std.specs.Prelude.{ℕ, ◌+◌, List, [], ◌∷◌, ◌++◌}
use Rattle.rw_base.specs.declared.tree.Leaf.{Leaf}
use Rattle.rw_base.specs.declared.tree.Part.{Part}
use Rattle.rw_base.specs.declared.tree.Part.TheVariants as part
use Rattle.rw_base.specs.declared.tree.NodeRow.{NodeRow}
use Rattle.rw_base.specs.Trees.{none, leaf, node, Forest, Numbered, width, size}
use Rattle.rw_base.specs.Arena.{Arena}
use Rattle.rw_base.specs.Rows.{value}

-- ---- a forest as rows: each node after its own parts, in the order in which the nodes are closed

-- the parts of a forest whose first node gets the number n
unfoldable pub parts_from : ℕ → Forest → List Part
parts_from n none = []
parts_from n (leaf i f) = part.Leaf i ∷ parts_from n f
parts_from n (node _ k kids f) = part.Node (record { 0 = n + size kids }) ∷ parts_from (n + (size kids + 1)) f

-- its rows, where its first leaf is the one numbered at
unfoldable pub rows_from : ℕ → ℕ → Forest → List NodeRow
rows_from n at none = []
rows_from n at (leaf i f) = rows_from n (at + 1) f
rows_from n at (node _ k kids f) =
    rows_from n at kids
    ++ (record { kind = k; first = at; past = at + width kids; parts = parts_from n kids }
    ∷ rows_from (n + (size kids + 1)) (at + width kids) f)

-- the rows of one node of this kind over these trees
abbrev pub laid_rows : ℕ → Forest → List NodeRow
laid_rows kind kids = rows_from 0 0 (node tt kind kids none)

-- the tree of these leaves whose root is that node
abbrev pub laid : List Leaf → ℕ → Forest → Arena
laid leaves kind kids = record { leaves = leaves; nodes = laid_rows kind kids; root = size kids }

-- the same trees with the numbers that their rows give the nodes
unfoldable pub with_numbers : ℕ → Forest → Numbered
with_numbers n none = none
with_numbers n (leaf i f) = leaf i (with_numbers n f)
with_numbers n (node _ k kids f) = node (n + size kids) k (with_numbers n kids) (with_numbers (n + (size kids + 1)) f)

-- ---- the trees that rows stand for

-- a node's kind and its own trees
abbrev pub KindAndTrees : Type 0
KindAndTrees = ℕ × Numbered

abbrev pub no_trees : KindAndTrees
no_trees = (0, none)

-- the trees of these parts, by those of each node
abbrev pub trees_by : (ℕ → KindAndTrees) → List Part → Numbered
trees_by f [] = none
trees_by f (part.Leaf i ∷ ps) = leaf i (trees_by f ps)
trees_by f (part.Node m ∷ ps) = node m.0 (f m.0).0 (f m.0).1 (trees_by f ps)

unfoldable pub kind_and_trees : List NodeRow → ℕ → KindAndTrees
kind_and_trees rows = value no_trees (λ n r f. (r.kind, trees_by f r.parts)) rows

-- the trees below a node
abbrev pub kids_of : List NodeRow → ℕ → Numbered
kids_of rows n = (kind_and_trees rows n).1

-- the trees of these parts
unfoldable pub forest_of : List NodeRow → List Part → Numbered
forest_of rows ps = trees_by (kind_and_trees rows) ps
