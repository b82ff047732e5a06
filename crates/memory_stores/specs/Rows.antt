-- The rows of a table, as entries of a map.
use Rattle.std.specs.Prelude.{◌≡◌, ℕ, ◌<◌, ◌≤◌, Bool, IsTrue, Option, List, map, length, slice_index_or}
use Rattle.std.specs.declared.cmp.Ordering.TheVariants.{Less, Greater}
use Rattle.std.specs.Ordering.{nat_cmp}
use Rattle.std.specs.Cmp.Lexicographic.{slice_cmp}
use Rattle.std.specs.FinMap as finmap
use Rattle.memory_stores.specs.States.{States, change_state, state_of_write}
use Rattle.memory_stores.specs.Past.{GoesBack}
use Rattle.memory_stores.specs.declared.state.FileState.{FileState}
use Rattle.memory_stores.specs.declared.row.FileRow.{FileRow}
use Rattle.memory_stores.specs.declared.undo.Undo.{Undo}

-- a row's path and what is known of it
abbrev pub entry_of : FileRow → List ℕ × FileState
entry_of row = (row.path, row.state)

abbrev pub row_entries : List FileRow → List (List ℕ × FileState)
row_entries rows = map entry_of rows

-- what rows whose paths rise say
abbrev pub states_of : List FileRow → States
states_of rows = finmap.from_sorted (row_entries rows)

-- whether the paths strictly rise
abbrev pub are_in_order : List FileRow → Bool
are_in_order rows = finmap.is_sorted (slice_cmp nat_cmp) (row_entries rows)

-- the row at place i has the path
pub record IsPlaceOf (rows : List FileRow) (path : List ℕ) (i : ℕ) : Type 0 where
  pub in_range : i < length rows
  pub has_path : (d : FileRow) → (slice_index_or rows i d).path ≡ path

-- a row with the path would go at place i: smaller paths before it, and greater ones from it on
pub record IsGapFor (rows : List FileRow) (path : List ℕ) (i : ℕ) : Type 0 where
  pub in_range : i ≤ length rows
  pub smaller_before : (j : ℕ) (d : FileRow) → j < i → slice_cmp nat_cmp (slice_index_or rows j d).path path ≡ Less
  pub greater_after : (j : ℕ) (d : FileRow) → i ≤ j → j < length rows
      → slice_cmp nat_cmp (slice_index_or rows j d).path path ≡ Greater

-- rows in order that say this of the path, and else what they said
pub record IsPut (rows : List FileRow) (path : List ℕ) (state : FileState) (new : List FileRow) : Type 0 where
  pub sorted : IsTrue (are_in_order new)
  pub states : states_of new ≡ finmap.insert (states_of rows) path state

-- rows in order that say nothing of the path, and else what they said
pub record IsTaken (rows : List FileRow) (path : List ℕ) (new : List FileRow) : Type 0 where
  pub sorted : IsTrue (are_in_order new)
  pub states : states_of new ≡ finmap.remove (states_of rows) path

-- rows in order with what is said of the path changed, where something is said
pub record IsChanged (rows : List FileRow) (path : List ℕ) (change : FileState → FileState) (new : List FileRow)
    : Type 0 where
  pub sorted : IsTrue (are_in_order new)
  pub states : states_of new ≡ change_state (states_of rows) path change

-- from the new rows it goes back to the old ones
abbrev pub RowsGoBack : Option Undo → List FileRow → List FileRow → Type 0
RowsGoBack undo old new = GoesBack undo (row_entries old) (row_entries new)

-- files as a new store knows them
abbrev pub stored : List (List ℕ × List ℕ) → List (List ℕ × FileState)
stored files = map (λ file. (file.0, state_of_write file.1 0)) files
