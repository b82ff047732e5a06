-- The rows of nodes that share one list of parts.
use Rattle.std.specs.Prelude.{◌≡◌, ℕ, zero, suc, ◌≤◌, List, [], ◌∷◌, slice_range}
use Rattle.rw_base.specs.declared.nodes.NodeHead.{NodeHead}
use Rattle.rw_base.specs.declared.tree.Part.{Part}
use Rattle.rw_base.specs.declared.tree.NodeRow.{NodeRow}
use Rattle.rw_base.specs.Arena.{row_of}

-- the row of a node whose parts begin at this place in the list of all parts
abbrev pub row_over : List Part → ℕ → NodeHead → NodeRow
row_over parts at h = row_of h.kind h.first h.past (slice_range parts at h.parts_end)

-- the rows, where the parts of the first begin at this place, and those of the next where they end
abbrev pub rows_over : List Part → ℕ → List NodeHead → List NodeRow
rows_over parts at [] = []
rows_over parts at (h ∷ hs) = row_over parts at h ∷ rows_over parts h.parts_end hs

-- Parts end behind where they begin, and the last where all parts end.
abbrev pub EndsRise : ℕ → List NodeHead → ℕ → Type 0
EndsRise at [] end = at ≡ end
EndsRise at (h ∷ hs) end = (at ≤ h.parts_end) × EndsRise h.parts_end hs end

-- where the parts of a node begin
abbrev pub parts_start : ℕ → List NodeHead → ℕ → ℕ
parts_start at [] n = at
parts_start at (h ∷ hs) zero = at
parts_start at (h ∷ hs) (suc n) = parts_start h.parts_end hs n
