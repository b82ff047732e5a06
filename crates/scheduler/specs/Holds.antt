-- Preconditions.
use Rattle.std.specs.Prelude.{ℕ, Bool, true, false, ◌&&◌, List, [], ◌∷◌, ◌++◌, slice_index_or}
use Rattle.std.specs.List.{list_any, list_all}
use Rattle.rw_host.specs.declared.file.FileEdit.{FileEdit}
use Rattle.rw_host.specs.declared.file.FileEdit.TheVariants as edit
use Rattle.kept_files.specs.States.{State}
use Rattle.recipe_yaml.specs.declared.plans.PlannedLeaf.{PlannedLeaf}
use Rattle.recipe_yaml.specs.declared.plans.Condition.{Condition}
use Rattle.recipe_yaml.specs.declared.plans.Plan.{Plan}
use Rattle.scheduler.specs.Edits.{edits}

-- whether a file gets an edit: all but Keep is one
abbrev pub is_edit : FileEdit → Bool
is_edit edit.Keep = false
is_edit _ = true

-- Preconditions that the file of a number meets in a state. `met` says of each earlier one whether it is met.
module _ (files : State) (n : ℕ) where
  -- whether each precondition of a leaf is met
  abbrev pub holds_by : List Bool → PlannedLeaf → Bool
  holds_by met leaf = list_all (λ k. slice_index_or met k false) leaf.conditions

  -- whether a leaf of a precondition, under its own ones, gives the file an edit
  abbrev pub gives : List Bool → PlannedLeaf → Bool
  gives met leaf = holds_by met leaf && is_edit (edits leaf.recipe files n [])

  -- a precondition is met where one of its leaves gives the file an edit
  unfoldable pub met_from : List Bool → List Condition → List Bool
  met_from met [] = met
  met_from met (c ∷ cs) = met_from (met ++ list_any (gives met) c.leaves ∷ []) cs

-- whether a leaf runs on the file of a number
unfoldable pub holds : Plan → PlannedLeaf → State → ℕ → Bool
holds plan leaf files n = holds_by files n (met_from files n [] plan.conditions) leaf
