-- The file that a row had at the last sync, by a walk back over what the calls did, the last first. It serves private
-- functions alone.
use Rattle.std.specs.Prelude.{ℕ, Bool, true, false, ◌==◌, ◌-◌, nat_lt, if◌then◌else◌, Option, None, List, [], ◌∷◌}
use Rattle.memory_stores.specs.declared.undo.Undo.{Undo}
use Rattle.memory_stores.specs.declared.undo.Undo.TheVariants.{Changed, Marked, Inserted, Synced}

abbrev pub is_sync : Undo → Bool
is_sync (Changed i old) = false
is_sync (Marked i call) = false
is_sync (Inserted i) = false
is_sync (Synced call) = true

-- whether the call inserted the row at this place
abbrev pub is_insertion : ℕ → Undo → Bool
is_insertion at (Changed i old) = false
is_insertion at (Marked i call) = false
is_insertion at (Inserted i) = i == at
is_insertion at (Synced call) = false

-- the place of a row, and its file, before a call
abbrev pub place_before : Undo → ℕ → ℕ
place_before (Changed i old) at = at
place_before (Marked i call) at = at
place_before (Inserted i) at = if nat_lt i at then at - 1 else at
place_before (Synced call) at = at

abbrev pub file_before : Undo → ℕ → Option (List ℕ) → Option (List ℕ)
file_before (Changed i old) at file = if i == at then old.now else file
file_before (Marked i call) at file = file
file_before (Inserted i) at file = file
file_before (Synced call) at file = file

abbrev pub synced_file : List Undo → ℕ → Option (List ℕ) → Option (List ℕ)
synced_file [] at file = file
synced_file (undo ∷ undos) at file =
    if is_sync undo then file
    else if is_insertion at undo then None
    else synced_file undos (place_before undo at) (file_before undo at file)
