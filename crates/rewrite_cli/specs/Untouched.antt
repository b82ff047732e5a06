-- What a run leaves of the paths that no step of it touches.
use Rattle.std.specs.Prelude.{◌≡◌, ◌⊎◌, ℕ, false, List, Ok}
use Rattle.std.specs.FinMap as map
use Rattle.rw_host.specs.Files.{Files}
use Rattle.recipe_yaml.specs.declared.plans.Plan.{Plan}
use Rattle.scheduler.specs.Touched.{IsTouched}
use Rattle.command_words.specs.Words.{Asked}
use Rattle.rewrite_cli.specs.Changes.{is_kept_out}
use Rattle.rewrite_cli.specs.Meanings.{Meanings}
use Rattle.rewrite_cli.specs.Opening.{opening, plan_in}

-- the run of the plan that is asked for, from the opening state of a repository on, touches a path
abbrev pub RunTouches : Meanings → Asked → Files → List ℕ → Type 0
RunTouches meanings asked repository path =
    (plan : Plan) × ((plan_in meanings repository asked.recipe ≡ Ok plan)
    × IsTouched meanings.read plan asked.cycles (opening meanings.read repository) path)

-- Each path but those of gate, journal and history has the bytes that it had in the repository, or the run touches it.
unfoldable pub RunLeavesTheUntouched : Meanings → Asked → Files → Files → Type 0
RunLeavesTheUntouched meanings asked repository after =
    (path : List ℕ) → is_kept_out path ≡ false
    → (map.get after path ≡ map.get repository path) ⊎ RunTouches meanings asked repository path
