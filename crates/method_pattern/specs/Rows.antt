-- Rows with gaps, tried on rows of items.
use Rattle.std.specs.Prelude.{List, [], ◌∷◌}

-- A row fits items where its elements stand, one behind another, for all of them: a gap for any number of items, also
-- none, another element for one item that it takes.
pub data RowFits {P X : Type 0} (IsGap : P → Type 0) (Takes : P → X → Type 0) : List P → List X → Type 0 where
  both_end : RowFits IsGap Takes [] []
  one_taken : {p : P} {x : X} {row : List P} {items : List X} → Takes p x → RowFits IsGap Takes row items
      → RowFits IsGap Takes (p ∷ row) (x ∷ items)
  gap_over : {p : P} {row : List P} {items : List X} → IsGap p → RowFits IsGap Takes row items
      → RowFits IsGap Takes (p ∷ row) items
  in_gap : {p : P} {x : X} {row : List P} {items : List X} → IsGap p → RowFits IsGap Takes (p ∷ row) items
      → RowFits IsGap Takes (p ∷ row) (x ∷ items)
