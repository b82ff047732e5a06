-- One of the images that a crash may leave, chosen by a number.
use Rattle.std.specs.Prelude.{ℕ, ◌==◌, ◌%◌, ◌/◌, if◌then◌else◌, Option, Some, None, List, [], ◌∷◌}
use Rattle.std.specs.Option.{option_map}
use Rattle.std.specs.List.{cons_option}
use Rattle.std.specs.FinMap as finmap
use Rattle.rw_host.specs.Files.{Files}
use Rattle.memory_stores.specs.States.{States, now_at, is_changed_since}
use Rattle.memory_stores.specs.Images.{Stage}
use Rattle.memory_stores.specs.Memory.{Record}
use Rattle.memory_stores.specs.declared.state.FileState.{FileState}

-- what the last sync found, or what the store began with
abbrev pub last_states : List Stage → States
last_states [] = finmap.empty
last_states (stage ∷ stages) = stage.0

-- Four files for an unsynced path: that of the last sync, that which reads give, none, and the one byte `?`.
abbrev pub chosen : ℕ → Option (List ℕ) → Option (List ℕ) → Option (List ℕ)
chosen choice synced now =
    if choice == 0 then synced
    else if choice == 1 then now
    else if choice == 2 then None
    else Some (63 ∷ [])

-- what a path gets whose file at the last sync was this one, and which choices are left for the paths behind it
abbrev pub file_picked : ℕ → ℕ → Option (List ℕ) → FileState → Option (List ℕ)
file_picked sync pick synced state =
    if is_changed_since sync (Some state) then chosen (pick % 4) synced state.now else state.now

abbrev pub picks_left : ℕ → ℕ → FileState → ℕ
picks_left sync pick state = if is_changed_since sync (Some state) then pick / 4 else pick

-- The unsynced paths in order take the digits of the number to the base 4, the last digit first, and 0 behind them: to
-- the unsynced path before which there are k others goes pick / 4 ^ k % 4.
abbrev pub picked_entries : ℕ → States → ℕ → List (List ℕ × FileState) → List (List ℕ × List ℕ)
picked_entries sync last pick [] = []
picked_entries sync last pick (e ∷ es) =
    let file = file_picked sync pick (now_at (finmap.get last e.0)) e.1 in
    cons_option (option_map (λ bytes. (e.0, bytes)) file) (picked_entries sync last (picks_left sync pick e.1) es)

abbrev pub picked : ℕ → Record → Files
picked pick s = finmap.from_sorted (picked_entries s.synced (last_states s.past) pick (finmap.entries s.states))
