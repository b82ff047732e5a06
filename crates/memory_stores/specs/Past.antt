-- What a store in memory was at its syncs, by going back over what its calls did. It serves private functions alone.
use Rattle.std.specs.Prelude.{◌≡◌, ℕ, false, Option, None, Some, IfSome, List, [], ◌∷◌, map, reverse, set}
use Rattle.std.specs.Prelude.{slice_index_or}
use Rattle.std.specs.List.{remove}
use Rattle.std.specs.FinMap as finmap
use Rattle.memory_stores.specs.States.{States}
use Rattle.memory_stores.specs.Images.{Stage}
use Rattle.memory_stores.specs.declared.state.FileState.{FileState}
use Rattle.memory_stores.specs.declared.undo.Undo.{Undo}
use Rattle.memory_stores.specs.declared.undo.Undo.TheVariants.{Changed, Marked, Inserted, Synced}

-- paths in order with what is known of each
abbrev pub Entries : Type 0
Entries = List (List ℕ × FileState)

-- a state without what the calls from the stop on did to it
abbrev pub early : FileState → FileState
early s = record { now = s.now; was_held = s.was_held; changed = s.changed; late = false }

abbrev pub early_entry : List ℕ × FileState → List ℕ × FileState
early_entry e = (e.0, early e.1)

abbrev pub early_entries : Entries → Entries
early_entries es = map early_entry es

-- no call from the stop on has touched any path
abbrev pub IsEarly : States → Type 0
IsEarly states = (path : List ℕ) → IfSome (finmap.get states path) (λ s. s.late ≡ false)

abbrev pub no_entry : List ℕ × FileState
no_entry = ([], record { now = None; was_held = false; changed = 0; late = false })

abbrev pub with_changed : ℕ → FileState → FileState
with_changed call s = record { now = s.now; was_held = s.was_held; changed = call; late = s.late }

-- the entries before a call
abbrev pub undone : Undo → Entries → Entries
undone (Changed i old) es = set es i ((slice_index_or es i no_entry).0, early old)
undone (Marked i call) es =
    let entry = slice_index_or es i no_entry in
    set es i (entry.0, with_changed call entry.1)
undone (Inserted i) es = remove es i
undone (Synced call) es = es

-- What each sync found, the last first, and what the store began with behind them. What the calls did comes the last
-- first, too.
abbrev pub past_of : List Undo → Entries → List Stage
past_of [] es = (finmap.from_sorted es, 0) ∷ []
past_of (Changed i old ∷ undos) es = past_of undos (undone (Changed i old) es)
past_of (Marked i call ∷ undos) es = past_of undos (undone (Marked i call) es)
past_of (Inserted i ∷ undos) es = past_of undos (undone (Inserted i) es)
past_of (Synced call ∷ undos) es = (finmap.from_sorted es, call) ∷ past_of undos es

abbrev pub past_by : List Undo → States → List Stage
past_by log states = past_of (reverse log) (early_entries (finmap.entries states))

-- what the calls did, with one more that may have done something
abbrev pub with_undo : Option Undo → List Undo → List Undo
with_undo None undos = undos
with_undo (Some undo) undos = undo ∷ undos

-- from the new entries it goes back to the old ones
abbrev pub GoesBack : Option Undo → Entries → Entries → Type 0
GoesBack undo old new = (undos : List Undo)
    → past_of (with_undo undo undos) (early_entries new) ≡ past_of undos (early_entries old)

abbrev pub StatesGoBack : Option Undo → States → States → Type 0
StatesGoBack undo old new = GoesBack undo (finmap.entries old) (finmap.entries new)
