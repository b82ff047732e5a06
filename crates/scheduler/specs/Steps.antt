-- An edit step.
use Rattle.std.specs.Prelude.{◌≡◌, ℕ, ◌<◌, ◌-◌, ◌^◌, min, List, [], ◌∷◌, ◌++◌, slice_index_or, if◌then◌else◌}
use Rattle.std.specs.Str.{bytes_eq}
use Rattle.rw_base.specs.declared.place.Place.{Place}
use Rattle.kept_files.specs.Readings.{Reads}
use Rattle.kept_files.specs.States.{State, IsKept, put_file, held_bytes}
use Rattle.kept_files.specs.declared.file.KeptFile.{KeptFile}
use Rattle.recipe_yaml.specs.declared.plans.Plan.{Plan}
use Rattle.recipe_yaml.specs.declared.plans.PlannedLeaf.{PlannedLeaf}
use Rattle.recipe_yaml.specs.declared.plans.LeafRecipe.TheVariants as leaf
use Rattle.scheduler.specs.declared.fate.Fate.{Fate}
use Rattle.scheduler.specs.declared.fate.Fate.TheVariants.{Goes, Lost, Taken, Becomes}
use Rattle.scheduler.specs.declared.event.DropCause.TheVariants as cause
use Rattle.scheduler.specs.declared.event.Event.{Event}
use Rattle.scheduler.specs.declared.event.Event.TheVariants as event
use Rattle.scheduler.specs.declared.fault.TheConstants.{MOST_HELD}
use Rattle.scheduler.specs.Fates.{fates_from, settled}

-- ---- the files after a step

-- what stands at a file's own path
abbrev pub left_at : KeptFile → Fate → State
left_at f Goes = []
left_at f (Becomes g) = if bytes_eq g.path f.path then g ∷ [] else []
left_at f _ = f ∷ []

-- what stands at another path because of it
abbrev pub moved_from : KeptFile → Fate → State
moved_from f (Becomes g) = if bytes_eq g.path f.path then [] else g ∷ []
moved_from f _ = []

-- what each of a list gives with the one beside it, one behind another
unfoldable pub beside : {A B C : Type 0} → (A → B → List C) → List A → List B → List C
beside f [] ys = []
beside f (x ∷ xs) [] = []
beside f (x ∷ xs) (y ∷ ys) = f x y ++ beside f xs ys

abbrev pub left : State → List Fate → State
left files ds = beside left_at files ds

abbrev pub moved : State → List Fate → State
moved files ds = beside moved_from files ds

abbrev pub put_files : State → State → State
put_files [] fs = fs
put_files (g ∷ gs) fs = put_files gs (put_file g fs)

unfoldable pub next : State → List Fate → State
next files ds = put_files (moved files ds) (left files ds)

-- ---- the events of a step

abbrev pub first_place : Place
first_place = record { line = 1; column = 1; byte = 0 }

abbrev pub events_at : List ℕ → KeptFile → Fate → List Event
events_at recipe f (Lost r) = event.Dropped f.path r.place (cause.Refused r.cause) recipe ∷ []
events_at recipe f Taken = event.Dropped f.path first_place cause.Taken recipe ∷ []
events_at recipe f _ = []

abbrev pub events_of : List ℕ → State → List Fate → List Event
events_of recipe files ds = beside (events_at recipe) files ds

-- ---- a step

-- what becomes of the files at the edit step of a leaf: all is seen from the state before it
unfoldable pub step_fates : Reads → Plan → PlannedLeaf → List (List ℕ) → State → List Fate
step_fates read plan leaf value files = settled files [] files (fates_from read plan leaf value files 0 files)

-- the state after it, and its events
unfoldable pub stepped : Reads → Plan → PlannedLeaf → List (List ℕ) → State → State
stepped read plan leaf value files = next files (step_fates read plan leaf value files)

unfoldable pub step_events : Reads → Plan → PlannedLeaf → List (List ℕ) → State → List Event
step_events read plan leaf value files = events_of leaf.name files (step_fates read plan leaf value files)

-- ---- what is kept with what it reads as

abbrev pub IsFateKept : Fate → Type 0
IsFateKept (Becomes g) = IsKept g
IsFateKept d = Unit {0}

unfoldable pub AreFatesKept : List Fate → Type 0
AreFatesKept [] = Unit {0}
AreFatesKept (d ∷ ds) = IsFateKept d × AreFatesKept ds

abbrev pub AreAllKept : State → Type 0
AreAllKept [] = Unit {0}
AreAllKept (f ∷ fs) = IsKept f × AreAllKept fs

-- ---- what a step is asked, and what it comes to

abbrev pub no_leaf : PlannedLeaf
no_leaf = record { recipe = leaf.FindSourceFiles (record { file_pattern = [] }); name = []; conditions = [] }

unfoldable pub leaf_at : Plan → ℕ → PlannedLeaf
leaf_at plan k = slice_index_or plan.leaves k no_leaf

-- files hold more than they may, and this is how much, or the last value of a u64 where that is less
pub record IsOver (files : State) (bytes : ℕ) : Type 0 where
  pub over : MOST_HELD < held_bytes files
  pub is : bytes ≡ min (held_bytes files) (2 ^ 64 - 1)
