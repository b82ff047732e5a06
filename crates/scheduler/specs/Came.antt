-- What a part of a run came to.
use Rattle.std.specs.Prelude.{◌≡◌, ◌⊎◌, List, [], ◌∷◌, Result, Ok, Err}
use Rattle.kept_files.specs.Readings.{Reads}
use Rattle.kept_files.specs.States.{State}
use Rattle.recipe_yaml.specs.declared.plans.Plan.{Plan}
use Rattle.scheduler.specs.declared.event.Event.{Event}
use Rattle.scheduler.specs.declared.fault.RunFault.{RunFault}
use Rattle.scheduler.specs.declared.fault.RunFault.TheVariants.{TooMuch, NoMemory}
use Rattle.scheduler.specs.declared.cycling.PhaseKind.{PhaseKind}
use Rattle.scheduler.specs.declared.cycling.PhaseKind.TheVariants.{Generate, Edit}
use Rattle.scheduler.specs.declared.running.Ended.{Ended}
use Rattle.scheduler.specs.Runs.{Stage, Phase, Run, reached, end, too_much, generation, edit_step}

-- a state that stands at the start of these stages, or after one of them
abbrev pub Stands : State → State → List Stage → Type 0
Stands files first [] = files ≡ first
Stands files first (stage ∷ stages) = (files ≡ first) ⊎ Stands files stage.state stages

-- From a state with these events through stages: the last state with all events; or the state before the first that
-- holds too much, and how much that holds; or one of the states, where memory was wanting.
unfoldable pub Came : Result (Unit {0}) RunFault → State → List Event → List Stage → State → List Event → Type 0
Came (Ok u) files events stages to told = reached files events stages ≡ end to told
Came (Err (TooMuch bytes)) files events stages to told = reached files events stages ≡ too_much to bytes
Came (Err NoMemory) files events stages to told = Stands to files stages

-- what one of the two phases of a cycle makes
abbrev pub phase_of : Reads → Plan → PhaseKind → Phase
phase_of read plan Generate = generation read
phase_of read plan Edit = edit_step read plan

-- what a run came to, with its cycles
unfoldable pub CameRun : Result Ended RunFault → State → List Event → Run → State → List Event → Type 0
CameRun (Ok ended) files events run to told =
    (reached files events run.stages ≡ end to told)
    × (run.cycles ≡ ended.cycles)
    × (run.still_changing ≡ ended.still_changing)
CameRun (Err fault) files events run to told = Came (Err fault) files events run.stages to told
