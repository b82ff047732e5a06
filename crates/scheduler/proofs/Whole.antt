-- A whole step.
use Rattle.std.proofs.Common.{◌≡◌, ℕ, ◌<◌, ◌≤◌, ◌-◌, ◌^◌, min, length, List, [], sym, ap, subst, ◌∙◌, arith}
use Rattle.std.specs.Prelude.{slice_index_or}
use Rattle.std.proofs.lemmas.List.{get_or_default}
use Rattle.scheduler.specs.declared.fault.TheConstants.{MOST_HELD}
use Rattle.kept_files.specs.Readings.{Reads}
use Rattle.kept_files.specs.States.{State, held_bytes}
use Rattle.scheduler.specs.declared.fate.Fate.{Fate}
use Rattle.scheduler.specs.declared.event.Event.{Event}
use Rattle.recipe_yaml.specs.declared.plans.Plan.{Plan}
use Rattle.recipe_yaml.specs.declared.plans.PlannedLeaf.{PlannedLeaf}
use Rattle.scheduler.specs.Fates.{fates_from, settled}
use Rattle.scheduler.specs.Steps.{step_fates, next, events_of, stepped, step_events, AreFatesKept, IsOver, leaf_at, no_leaf}
use Rattle.scheduler.specs.Runs.{Stage, edit_step}
use Rattle.scheduler.proofs.After.{settled_kept}

pub settled_are : (read : Reads) (plan : Plan) (l : PlannedLeaf) (value : List (List ℕ)) (files : State) (ds es : List Fate) → ds ≡ fates_from read plan l value files 0 files → es ≡ settled files [] files ds → es ≡ step_fates read plan l value files
unfolding step_fates
settled_are read plan l value files ds es e h = h ∙ ap (settled files [] files) e

pub settled_are_kept : (files : State) (ds es : List Fate) → AreFatesKept ds → es ≡ settled files [] files ds → AreFatesKept es
settled_are_kept files ds es r e = subst AreFatesKept (sym e) (settled_kept files [] files ds r)

pub ruleset settled_fates = (settled_are, settled_are_kept)

pub made_by : (read : Reads) (plan : Plan) (l : PlannedLeaf) (value : List (List ℕ)) (files new : State) (ds : List Fate) (name : List ℕ) (events : List Event) → ds ≡ step_fates read plan l value files → new ≡ next files ds → name ≡ l.name → events ≡ events_of name files ds → edit_step read plan l value files ≡ record { state = new; events = events }
unfolding edit_step stepped step_events
made_by read plan l value files new ds name events e s n h =
    let st : next files (step_fates read plan l value files) ≡ new = ap (next files) (sym e) ∙ sym s in
    let ev : events_of l.name files (step_fates read plan l value files) ≡ events = ap (events_of l.name files) (sym e) ∙ (ap (λ x. events_of x files ds) (sym n) ∙ sym h) in
    λ i. record { state = st i; events = ev i }

pub ruleset stepped_by = (made_by)

pub is_over : (stage : Stage) (files : State) (events : List Event) (held bytes : ℕ) → stage ≡ record { state = files; events = events } → held ≡ min (held_bytes files) (2 ^ 64 - 1) → MOST_HELD < held → held ≡ bytes → IsOver stage.state bytes
is_over stage files events held bytes e h m b =
    let s : stage.state ≡ files = ap (λ (x : Stage). x.state) e in
    let k : held_bytes stage.state ≡ held_bytes files = ap held_bytes s in
    record { over = omega arith; is = omega arith }

pub little : (files : State) (held : ℕ) → held ≡ min (held_bytes files) (2 ^ 64 - 1) → held ≤ MOST_HELD → held_bytes files ≤ MOST_HELD
little files held e le = omega arith

pub ruleset over = (is_over, little)

pub leaf_is : (plan : Plan) (k : ℕ) (l : PlannedLeaf) → k < length plan.leaves → slice_index_or plan.leaves k l ≡ l → l ≡ leaf_at plan k
unfolding leaf_at
leaf_is plan k l lt e = sym e ∙ get_or_default plan.leaves k l no_leaf lt
