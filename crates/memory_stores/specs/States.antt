-- What a store in memory knows of each path that it has met.
use Rattle.std.specs.Prelude.{ℕ, Bool, true, false, cond, nat_lt, ◌||◌, Option, Some, None, List, refl}
use Rattle.std.specs.Option.{option_map}
use Rattle.std.specs.List.{filter_map}
use Rattle.std.specs.Ordering.{nat_cmp}
use Rattle.std.specs.Cmp.Lexicographic.{slice_cmp}
use Rattle.std.specs.Coded.{Coded, code_by, coded×, coded_ℕ, coded_bool, coded_list, coded_option}
use Rattle.std.specs.FinMap as finmap
use Rattle.rw_host.specs.Files.{Files}
use Rattle.memory_stores.specs.declared.state.FileState.{FileState}

abbrev pub States : Type 0
States = finmap.FinMap (slice_cmp nat_cmp) FileState

abbrev pub state_code : Coded FileState
state_code =
    code_by (Option (List ℕ) × (Bool × (ℕ × Bool)))
    (coded× (coded_option (coded_list coded_ℕ)) (coded× coded_bool (coded× coded_ℕ coded_bool)))
    (λ s. (s.now, (s.was_held, (s.changed, s.late))))
    (λ p. record { now = p.0; was_held = p.1.0; changed = p.1.1.0; late = p.1.1.1 })
    (λ _. refl)

abbrev pub states_code : Coded States
states_code = finmap.code (coded_list coded_ℕ) state_code

-- a path with these bytes, put there by this call
abbrev pub state_of_write : List ℕ → ℕ → FileState
state_of_write bytes call = record { now = Some bytes; was_held = true; changed = call; late = false }

-- after a write that failed
abbrev pub state_of_failed_write : Option FileState → ℕ → FileState
state_of_failed_write None call = record { now = None; was_held = false; changed = call; late = false }
state_of_failed_write (Some s) call = record { now = s.now; was_held = s.was_held; changed = call; late = s.late }

-- after a removal, and after one that failed: a path that was never held stays as it is
abbrev pub state_of_removal : FileState → ℕ → FileState
state_of_removal s call =
    record { now = None; was_held = s.was_held; changed = cond s.was_held call s.changed; late = s.late }

abbrev pub state_of_failed_removal : FileState → ℕ → FileState
state_of_failed_removal s call =
    record { now = s.now; was_held = s.was_held; changed = cond s.was_held call s.changed; late = s.late }

-- From the stop on, where all calls fail, no number is kept.
abbrev pub state_of_late_write : Option FileState → FileState
state_of_late_write None = record { now = None; was_held = false; changed = 0; late = true }
state_of_late_write (Some s) = record { now = s.now; was_held = s.was_held; changed = s.changed; late = true }

abbrev pub state_of_late_removal : FileState → FileState
state_of_late_removal s =
    record { now = s.now; was_held = s.was_held; changed = s.changed; late = cond s.was_held true s.late }

-- after this call, which fails, in a store whose calls all fail from the stop on
abbrev pub state_of_write_fault : ℕ → ℕ → Option FileState → FileState
state_of_write_fault call stop o = cond (nat_lt call stop) (state_of_failed_write o call) (state_of_late_write o)

abbrev pub state_of_removal_fault : ℕ → ℕ → FileState → FileState
state_of_removal_fault call stop s = cond (nat_lt call stop) (state_of_failed_removal s call) (state_of_late_removal s)

-- whether a call after this one wrote or removed a path with this state, also in vain
abbrev pub is_changed_since : ℕ → Option FileState → Bool
is_changed_since call None = false
is_changed_since call (Some s) = nat_lt call s.changed || s.late

-- the file of a path that may have none
abbrev pub now_at : Option FileState → Option (List ℕ)
now_at None = None
now_at (Some s) = s.now

-- the paths that have a file, with its bytes
abbrev pub file_entry : List ℕ × FileState → Option (List ℕ × List ℕ)
file_entry e = option_map (λ bytes. (e.0, bytes)) e.1.now

unfoldable pub now_of : States → Files
now_of states = finmap.from_sorted (filter_map file_entry (finmap.entries states))

abbrev pub insert_some : States → List ℕ → Option FileState → States
insert_some states path None = states
insert_some states path (Some s) = finmap.insert states path s

-- the states with one path changed, where it has one
abbrev pub change_state : States → List ℕ → (FileState → FileState) → States
change_state states path change = insert_some states path (option_map change (finmap.get states path))
