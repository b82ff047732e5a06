-- How the code finds a node that lies too deep.
use Rattle.std.specs.Prelude.{ℕ, ◌+◌, max, nat_le, nat_lt, if◌then◌else◌, List, [], ◌∷◌, length, Option, Some, None}
use Rattle.rw_base.specs.declared.tree.Part.{Part}
use Rattle.rw_base.specs.declared.tree.Part.TheVariants as part
use Rattle.rw_base.specs.declared.tree.NodeRow.{NodeRow}
use Rattle.rw_base.specs.Rows.{row_values}

-- a node with two or more parts counts
abbrev pub worth : ℕ → ℕ
worth parts = if nat_le 2 parts then 1 else 0

-- the greatest height of parts, by those of nodes
abbrev pub highest_of : (ℕ → ℕ) → List Part → ℕ
highest_of f [] = 0
highest_of f (part.Leaf i ∷ ps) = highest_of f ps
highest_of f (part.Node n ∷ ps) = max (f n.0) (highest_of f ps)

-- the first part that is higher
abbrev pub first_above : (ℕ → ℕ) → ℕ → List Part → Option ℕ
first_above f a [] = None
first_above f a (part.Leaf i ∷ ps) = first_above f a ps
first_above f a (part.Node n ∷ ps) = if nat_lt a (f n.0) then Some n.0 else first_above f a ps

abbrev pub height_by : ℕ → NodeRow → (ℕ → ℕ) → ℕ
height_by m r f = worth (length r.parts) + highest_of f r.parts

-- the heights of all rows
abbrev pub all_heights : List NodeRow → List ℕ
all_heights rows = row_values 0 height_by [] rows
