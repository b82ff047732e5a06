-- When a run leaves the file at a path alone, and what a file that a step alters comes from.
use Rattle.std.specs.Prelude.{◌≡◌, ℕ, zero, suc, ◌<◌, ◌&&◌, Bool, true, false, not, List, [], ◌∷◌, length, filter}
use Rattle.std.specs.Prelude.{Option, Some, MatchBool}
use Rattle.std.specs.List.{AllByRecursion}
use Rattle.std.specs.Str.{bytes_eq}
use Rattle.rw_base.specs.declared.edit.Edit.{Edit}
use Rattle.rw_host.specs.declared.file.FileEdit.{FileEdit}
use Rattle.rw_host.specs.declared.file.FileEdit.TheVariants as edit
use Rattle.kept_files.specs.Readings.{Reads}
use Rattle.kept_files.specs.FileEdits.{edited}
use Rattle.kept_files.specs.States.{State, file_at, has_path}
use Rattle.kept_files.specs.declared.file.KeptFile.{KeptFile}
use Rattle.recipe_yaml.specs.declared.plans.Plan.{Plan}
use Rattle.recipe_yaml.specs.declared.plans.PlannedLeaf.{PlannedLeaf}
use Rattle.scheduler.specs.Edits.{edits}
use Rattle.scheduler.specs.Holds.{holds}
use Rattle.scheduler.specs.Runs.{each_leaf, generation, cycle, run, last_of, same_files, scanned}
use Rattle.scheduler.specs.Steps.{stepped}

-- the files at a path: one or none in a state
abbrev pub at_path : List ℕ → State → State
at_path path files = filter (λ f. bytes_eq f.path path) files

-- ---- which files a step alters

-- whether an edit alters a file. One that was only looked for stays as it is.
abbrev pub alters : FileEdit → Bool
alters (edit.Edit es path) = true
alters edit.Remove = true
alters _ = false

-- whether a leaf alters the file of a number: it runs on it, and its edit alters it
unfoldable pub is_altered : Plan → PlannedLeaf → List (List ℕ) → State → ℕ → Bool
is_altered plan leaf value files n = holds plan leaf files n && alters (edits leaf.recipe files n value)

-- the step of a leaf alters no file at a path
abbrev pub StepSpares : Plan → PlannedLeaf → List (List ℕ) → State → List ℕ → Type 0
StepSpares plan leaf value files path =
    (n : ℕ) → n < length files → (file_at files n).path ≡ path → is_altered plan leaf value files n ≡ false

-- nor do the steps of these leaves, one after another, in a cycle that began with the first state
unfoldable pub StepsSpare : Reads → Plan → State → List PlannedLeaf → State → List ℕ → Type 0
StepsSpare read plan first [] files path = Unit {0}
StepsSpare read plan first (leaf ∷ leaves) files path =
    let value = scanned leaf.recipe first in
    StepSpares plan leaf value files path
    × StepsSpare read plan first leaves (stepped read plan leaf value files) path

-- nor do those of a cycle, which come once each leaf has generated its files
abbrev pub CycleSpares : Reads → Plan → State → List ℕ → Type 0
CycleSpares read plan files path =
    StepsSpare read plan files plan.leaves (last_of files (each_leaf (generation read) files plan.leaves files)) path

-- nor do those of a run, in each cycle that comes
unfoldable pub RunSpares : Reads → Plan → ℕ → State → List ℕ → Type 0
RunSpares read plan zero files path = Unit {0}
RunSpares read plan (suc n) files path =
    let last = last_of files (cycle read plan files) in
    CycleSpares read plan files path
    × ((plan.again && not (same_files files last)) ≡ true → RunSpares read plan n last path)

-- A run leaves a path alone: no step alters the file that stands there; where none stands there, none comes.
unfoldable pub IsUntouched : Reads → Plan → ℕ → State → List ℕ → Type 0
IsUntouched read plan cycles files path =
    MatchBool (has_path files path) (RunSpares read plan cycles files path)
    (AllByRecursion (λ stage. has_path stage.state path ≡ false) (run read plan cycles files).stages)

-- ---- what an altered file comes from

-- The step of a leaf makes this file of one before it: the leaf runs on that one and edits it, and the bytes of this
-- one are the new text.
pub record IsEdited (plan : Plan) (leaf : PlannedLeaf) (value : List (List ℕ)) (files : State) (g : KeptFile) : Type 0
  where
    pub number : ℕ
    pub es : List Edit
    pub path : Option (List ℕ)
    pub stands : number < length files
    pub runs : holds plan leaf files number ≡ true
    pub gives : edits leaf.recipe files number value ≡ edit.Edit es path
    pub bytes : g.bytes ≡ Some (edited (file_at files number) es)
