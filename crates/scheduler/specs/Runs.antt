-- Cycles and runs.
use Rattle.std.specs.Prelude.{ℕ, zero, suc, ◌+◌, ◌-◌, ◌^◌, Bool, true, false, not, ◌&&◌, nat_lt, min}
use Rattle.std.specs.Prelude.{List, [], ◌∷◌, ◌++◌, Option, Some, None, map, if◌then◌else◌}
use Rattle.std.specs.Str.{bytes_eq}
use Rattle.kept_files.specs.declared.reading.Reading.TheVariants as reading
use Rattle.rw_host.specs.declared.file.SourceFile.{SourceFile}
use Rattle.kept_files.specs.Readings.{Reads}
use Rattle.kept_files.specs.States.{State, has_path, put_file, held_bytes}
use Rattle.kept_files.specs.declared.file.KeptFile.{KeptFile}
use Rattle.kept_files.specs.declared.scan_value.ScanValue.{ScanValue}
use Rattle.recipe_yaml.specs.declared.plans.Plan.{Plan}
use Rattle.recipe_yaml.specs.declared.plans.PlannedLeaf.{PlannedLeaf}
use Rattle.recipe_yaml.specs.declared.plans.LeafRecipe.{LeafRecipe}
use Rattle.j_repair.specs.Changes.{file_of}
use Rattle.scheduler.specs.declared.event.Event.{Event}
use Rattle.scheduler.specs.declared.event.Event.TheVariants as event
use Rattle.scheduler.specs.declared.fault.TheConstants.{MOST_HELD}
use Rattle.scheduler.specs.Edits.{scan, generated}
use Rattle.scheduler.specs.Steps.{stepped, step_events}

-- what a phase made: a state, and what is told of it
pub record Stage : Type 0 where
  pub state : State
  pub events : List Event

-- ---- scan

-- what a leaf's scanner has found once it has seen the files from this number on, and before
abbrev pub scanned_from : LeafRecipe → State → ℕ → State → List (List ℕ) → List (List ℕ)
scanned_from leaf files n [] value = value
scanned_from leaf files n (f ∷ fs) value = scanned_from leaf files (n + 1) fs (scan leaf files n value)

-- what it finds in a state, files in the order of their paths
unfoldable pub scanned : LeafRecipe → State → List (List ℕ)
scanned leaf files = scanned_from leaf files 0 files []

-- ---- generate

abbrev pub refusal_of : KeptFile → List Event
refusal_of f = elim f.reading [ reading.Refused r ↦ event.Refused f.path r.place r.cause ∷ [] | _ ↦ [] ]

-- A file is added where none stands at its path. Where it is refused, this is told.
abbrev pub with_file : Reads → SourceFile → Stage → Stage
with_file read s stage =
    if has_path stage.state s.path then stage
    else record { state = put_file (file_of read s) stage.state; events = stage.events ++ refusal_of (file_of read s) }

abbrev pub with_files : Reads → List SourceFile → Stage → Stage
with_files read [] stage = stage
with_files read (s ∷ ss) stage = with_files read ss (with_file read s stage)

-- the state with the files that a leaf generates
unfoldable pub generation : Reads → PlannedLeaf → List (List ℕ) → State → Stage
generation read leaf value files = with_files read (generated leaf.recipe value) (record { state = files; events = [] })

-- ---- edit

unfoldable pub edit_step : Reads → Plan → PlannedLeaf → List (List ℕ) → State → Stage
edit_step read plan leaf value files =
    record { state = stepped read plan leaf value files; events = step_events read plan leaf value files }

-- ---- a cycle: phases one after another

abbrev pub Phase : Type 0
Phase = PlannedLeaf → List (List ℕ) → State → Stage

-- what a phase makes for each leaf in turn, by what the leaf's scanner found in the cycle's first state
unfoldable pub each_leaf : Phase → State → List PlannedLeaf → State → List Stage
each_leaf phase first [] files = []
each_leaf phase first (leaf ∷ leaves) files =
    let stage = phase leaf (scanned leaf.recipe first) files in
    stage ∷ each_leaf phase first leaves stage.state

abbrev pub last_of : State → List Stage → State
last_of files [] = files
last_of files (stage ∷ stages) = last_of stage.state stages

-- first each leaf generates, then each edits
unfoldable pub cycle : Reads → Plan → State → List Stage
cycle read plan files =
    let made = each_leaf (generation read) files plan.leaves files in
    made ++ each_leaf (edit_step read plan) files plan.leaves (last_of files made)

-- ---- a run

abbrev pub same_bytes : Option (List ℕ) → Option (List ℕ) → Bool
same_bytes None None = true
same_bytes (Some xs) (Some ys) = bytes_eq xs ys
same_bytes _ _ = false

-- whether two files have the same path and bytes
abbrev pub same_file : KeptFile → KeptFile → Bool
same_file f g = bytes_eq f.path g.path && same_bytes f.bytes g.bytes

-- whether two states have
unfoldable pub same_files : State → State → Bool
same_files [] [] = true
same_files (f ∷ fs) (g ∷ gs) = same_file f g && same_files fs gs
same_files _ _ = false

pub record Run : Type 0 where
  pub stages : List Stage
  pub cycles : ℕ
  pub still_changing : Bool

-- a cycle before a run
abbrev pub ends_with : List Stage → Run → Run
ends_with stages r = record { stages = stages ++ r.stages; cycles = r.cycles + 1; still_changing = r.still_changing }

-- Cycles from a state on, so many at most: a further one comes where this one changed something and the plan causes
-- another. Where their number alone forbids it, the run is still changing.
unfoldable pub run : Reads → Plan → ℕ → State → Run
run read plan zero files = record { stages = []; cycles = 0; still_changing = true }
run read plan (suc n) files =
    let stages = cycle read plan files in
    if plan.again && not (same_files files (last_of files stages))
    then ends_with stages (run read plan n (last_of files stages))
    else record { stages = stages; cycles = 1; still_changing = false }

-- ---- what is reached

-- the last state with all events, or the state before the first that holds too much, and how much that holds
pub data Reached : Type 0 where
  end : State → List Event → Reached
  too_much : State → ℕ → Reached

unfoldable pub reached : State → List Event → List Stage → Reached
reached files events [] = end files events
reached files events (stage ∷ stages) =
    if nat_lt MOST_HELD (held_bytes stage.state) then too_much files (min (held_bytes stage.state) (2 ^ 64 - 1))
    else reached stage.state (events ++ stage.events) stages

-- ---- the values of all scanners

abbrev pub value_for : State → PlannedLeaf → ScanValue
value_for first leaf = record { texts = scanned leaf.recipe first }

abbrev pub values_for : State → List PlannedLeaf → List ScanValue
values_for first leaves = map (value_for first) leaves
