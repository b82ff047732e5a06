-- How a recipe ends over a repository.
use Rattle.std.specs.Prelude.{ℕ, Bool, List, [], ◌∷◌, ◌++◌, Option, None, Some, Result, Ok, Err}
use Rattle.std.specs.List.{flat_map}
use Rattle.std.specs.FinMap as map
use Rattle.rw_base.specs.declared.place.Refused.{Refused}
use Rattle.rw_host.specs.Files.{Files}
use Rattle.kept_files.specs.Readings.{Reads}
use Rattle.kept_files.specs.States.{State}
use Rattle.recipe_yaml.specs.declared.fault.RecipeFault.{RecipeFault}
use Rattle.recipe_yaml.specs.declared.plans.Plan.{Plan}
use Rattle.scheduler.specs.declared.event.Event.{Event}
use Rattle.scheduler.specs.declared.event.Event.TheVariants as event
use Rattle.scheduler.specs.Runs.{Run, run, Reached, end, too_much, reached}
use Rattle.rewrite_cli.specs.declared.limits.Limit.{Limit}
use Rattle.rewrite_cli.specs.declared.limits.Limit.TheVariants as limit
use Rattle.rewrite_cli.specs.Checking.{refusal_at}
use Rattle.rewrite_cli.specs.Meanings.{Meanings}
use Rattle.rewrite_cli.specs.Opening.{opening, plan_in}
use Rattle.command_words.specs.Words.{Asked}

-- A run: the states that it opens and ends in, what it tells of files, how many cycles there were, and whether only
-- their number forbids another.
pub record Ran : Type 0 where
  pub first : State
  pub last : State
  pub events : List Event
  pub cycles : ℕ
  pub still_changing : Bool

-- there was a run, or a fault of the recipe file or of the plan, or a limit was passed
pub data Ends : Type 0 where
  ran : Ran → Ends
  fault : RecipeFault → Ends
  past : Limit → Ends

-- what is told of the file at a path, where it is refused
abbrev pub event_of : List ℕ → Option Refused → List Event
event_of path None = []
event_of path (Some r) = event.Refused path r.place r.cause ∷ []

-- of all files and stubs of a repository, in the order of their paths
unfoldable pub refusals : Reads → Files → List Event
refusals read files = flat_map (λ path. event_of path (refusal_at read files path)) (map.keys files)

-- what is told of the files that a run opens comes first
abbrev pub ran_by : List Event → State → Run → Reached → Ends
ran_by opened first r (end last events) = ran (record {
  first = first;
  last = last;
  events = opened ++ events;
  cycles = r.cycles;
  still_changing = r.still_changing;
})
ran_by opened first r (too_much files bytes) = past limit.StepBytes

abbrev pub run_by : List Event → State → Run → Ends
run_by opened first r = ran_by opened first r (reached first [] r.stages)

unfoldable pub ended_by : Reads → ℕ → List Event → State → Result Plan RecipeFault → Ends
ended_by read cycles opened first (Err f) = fault f
ended_by read cycles opened first (Ok plan) = run_by opened first (run read plan cycles first)

-- How a recipe ends over a repository within its limits: faults come first, then the limit of a step.
unfoldable pub ended : Meanings → Files → Asked → Ends
ended meanings files asked =
    ended_by meanings.read asked.cycles (refusals meanings.read files) (opening meanings.read files)
    (plan_in meanings files asked.recipe)
