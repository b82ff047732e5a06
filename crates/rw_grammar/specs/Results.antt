-- What a derivation answers.
use Rattle.std.specs.Prelude.{◌≡◌, ℕ, ◌+◌, ◌-◌, ◌<◌, ◌^◌, ◌&&◌, nat_le, if◌then◌else◌}
use Rattle.std.specs.Prelude.{List, [], ◌∷◌, ◌++◌, length, slice_get, Option}
use Rattle.std.specs.Option.{option_map}
use Rattle.rw_base.specs.declared.tree.Leaf.{Leaf}
use Rattle.rw_base.specs.declared.tree.NodeRow.{NodeRow}
use Rattle.rw_base.specs.Arena.{Arena, Tile, leaf_at, end_from}
use Rattle.rw_base.specs.Trees.{none, leaf, node, Forest, width, trees_in, numbers}
use Rattle.rw_base.specs.Laid.{rows_from, laid, laid_rows}
use Rattle.rw_grammar.specs.declared.depth.TheConstants.{DEPTH_LIMIT}
use Rattle.rw_grammar.specs.Parts.{Parts, rule_of}
use Rattle.rw_grammar.specs.Derivation.{DerivesTree}
use Rattle.rw_grammar.specs.Viability.{StopsAt}

-- the class of a leaf, by its number
abbrev pub class_in : List Leaf → ℕ → ℕ
class_in leaves i = (leaf_at leaves i).class

-- the class of the leaf of a number, if it is there
abbrev pub class_next : List Leaf → ℕ → Option ℕ
class_next leaves i = option_map (λ l. l.class) (slice_get leaves i)

-- Leaves as a tree has them: one behind another from the first byte on, the last one the end, whose text is empty.
pub record AreTreeLeaves (leaves : List Leaf) : Type 0 where
  pub some : 0 < length leaves
  pub few : length leaves < 2 ^ 32
  pub tile : Tile 0 leaves
  pub empty_end : (leaf_at leaves (length leaves - 1)).from ≡ end_from 0 leaves

-- the numbers of all leaves
abbrev pub all_of : List Leaf → List ℕ
all_of leaves = numbers 0 (length leaves)

-- the rule derives this node from the leaves
abbrev pub IsTreeOf : List Parts → ℕ → List Leaf → ℕ → Forest → Type 0
IsTreeOf rules start leaves kind kids =
    DerivesTree (rule_of rules) (class_in leaves) start (all_of leaves) (node tt kind kids none)

-- the rule derives a tree from the leaves, of whatever depth
abbrev pub IsDerivable : List Parts → ℕ → List Leaf → Type 0
IsDerivable rules start leaves = (kind : ℕ) × (kids : Forest) × IsTreeOf rules start leaves kind kids

-- no derivation by the rule goes past this leaf
abbrev pub Stops : List Parts → ℕ → List Leaf → ℕ → Type 0
Stops rules start leaves i = StopsAt (rule_of rules) (class_in leaves) (rule_of rules start) (all_of leaves) i

-- the tree of leaves and rows of which the last is the root
abbrev pub tree_of : List Leaf → List NodeRow → Arena
tree_of leaves rows = record { leaves = leaves; nodes = rows; root = length rows - 1 }

-- and these are its rows
pub record AreRowsOf (rules : List Parts) (start : ℕ) (leaves : List Leaf) (rows : List NodeRow) : Type 0 where
  pub kind : ℕ
  pub kids : Forest
  pub derived : IsTreeOf rules start leaves kind kids
  pub are : rows ≡ laid_rows kind kids

-- ---- depth

-- so many such nodes stand around the trees of a node, where that many stand around it
abbrev pub around : ℕ → Forest → ℕ
around k kids = if nat_le 2 (trees_in kids) then k + 1 else k

abbrev pub here : ℕ → ℕ → Forest → List ℕ
here k at kids = if nat_le 2 (trees_in kids) && nat_le DEPTH_LIMIT k then at ∷ [] else []

-- The first leaves of the nodes with two or more parts that lie below too many such nodes, where these trees lie below
-- k of them, and their first leaf is the one numbered at. A node stands before the nodes in it.
abbrev pub too_deep : ℕ → ℕ → Forest → List ℕ
too_deep k at none = []
too_deep k at (leaf i f) = too_deep k (at + 1) f
too_deep k at (node u r kids f) =
    here k at kids ++ (too_deep (around k kids) at kids ++ too_deep k (at + width kids) f)

-- rows of one tree
pub record IsOneTree (rows : List NodeRow) : Type 0 where
  pub kind : ℕ
  pub kids : Forest
  pub are : rows ≡ rows_from 0 0 (node tt kind kids none)

-- the number stands first in the list
pub record IsFirstOf (i : ℕ) (is : List ℕ) : Type 0 where
  pub others : List ℕ
  pub all : is ≡ i ∷ others

-- The tree of the derivation, and no node of it is too deep.
pub record IsDerived (rules : List Parts) (start : ℕ) (leaves : List Leaf) (t : Arena) : Type 0 where
  pub kind : ℕ
  pub kids : Forest
  pub derived : IsTreeOf rules start leaves kind kids
  pub is : t ≡ laid leaves kind kids
  pub flat : too_deep 0 0 (node tt kind kids none) ≡ []

-- There is a derivation, and this is the first leaf of the first node in it that is too deep.
pub record IsTooDeep (rules : List Parts) (start : ℕ) (leaves : List Leaf) (leaf : ℕ) : Type 0 where
  pub kind : ℕ
  pub kids : Forest
  pub derived : IsTreeOf rules start leaves kind kids
  pub deep : IsFirstOf leaf (too_deep 0 0 (node tt kind kids none))
