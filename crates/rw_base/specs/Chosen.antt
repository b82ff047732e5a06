-- For each leaf or node the position of its edit, as `rearranged` keeps it.
use Rattle.std.specs.Prelude.{◌≡◌, ℕ, ◌<◌, Bool, true, false, List, [], length, slice_index_or, Option, Some, None}
use Rattle.rw_base.specs.declared.edit.Item.{Item}
use Rattle.rw_base.specs.declared.edit.Spot.{Spot}
use Rattle.rw_base.specs.declared.edit.Spot.TheVariants as spot
use Rattle.rw_base.specs.declared.edit.Edit.{Edit}
use Rattle.rw_base.specs.declared.tree.Part.{Part}
use Rattle.rw_base.specs.Arena.{Arena, parts_of, PartsHold}
use Rattle.rw_base.specs.NewText.{edit_at}

abbrev pub no_edit : Edit
no_edit = record { spot = spot.Leaf 0; items = [] }

-- the spots of leaves and of nodes, by number
abbrev pub leaf_spot : ℕ → Spot
leaf_spot i = spot.Leaf i

abbrev pub node_spot : ℕ → Spot
node_spot n = spot.Node (record { 0 = n })

-- the items of the edit at a position
abbrev pub items_of : List Edit → Option ℕ → Option (List Item)
items_of edits None = None
items_of edits (Some k) = Some (slice_index_or edits k no_edit).items

-- the positions name the edits at so many leaves, or nodes
pub record AreChosen (to : ℕ → Spot) (count : ℕ) (edits : List Edit) (chosen : List (Option ℕ)) : Type 0 where
  pub long : length chosen ≡ count
  pub each : (i : ℕ) → i < count → edit_at edits (to i) ≡ items_of edits (slice_index_or chosen i None)
  pub inside : (i k : ℕ) → slice_index_or chosen i None ≡ Some k → k < length edits

-- no edit is at these leaves, and these nodes aren't touched
abbrev pub AreUntouched : List (Option ℕ) → List Bool → List Part → Type 0
AreUntouched leaves touched parts =
    PartsHold (λ i. slice_index_or leaves i None ≡ None) (λ m. slice_index_or touched m true ≡ false) parts

-- Each of the first so many nodes that isn't touched has no edit, and its parts are untouched.
abbrev pub KnowsUntouched : Arena → List (Option ℕ) → List (Option ℕ) → ℕ → List Bool → Type 0
KnowsUntouched t leaves nodes count touched =
    (n : ℕ) → n < count → slice_index_or touched n true ≡ false
    → (slice_index_or nodes n None ≡ None) × AreUntouched leaves touched (parts_of t.nodes n)

abbrev pub KnowsAllUntouched : Arena → List (Option ℕ) → List (Option ℕ) → List Bool → Type 0
KnowsAllUntouched t leaves nodes touched = KnowsUntouched t leaves nodes (length t.nodes) touched
