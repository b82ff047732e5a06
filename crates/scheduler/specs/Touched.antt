-- Which paths a run touches, by what its steps do there.
use Rattle.std.specs.Prelude.{◌≡◌, ◌⊎◌, ℕ, zero, suc, ◌<◌, ◌&&◌, true, false, not, List, [], ◌∷◌, length, Contains}
use Rattle.std.specs.Prelude.{slice_index_or, Option, Some}
use Rattle.rw_base.specs.Arena.{Arena, IsTree}
use Rattle.rw_base.specs.Gaps.{new_bytes, old_bytes, pieces_of}
use Rattle.rw_base.specs.declared.edit.Edit.{Edit}
use Rattle.rw_host.specs.declared.file.FileEdit.TheVariants as edit
use Rattle.rw_host.specs.declared.file.SourceFile.{SourceFile}
use Rattle.kept_files.specs.Readings.{Reads}
use Rattle.kept_files.specs.States.{IsKept, State, file_at, has_path, tree_in}
use Rattle.kept_files.specs.declared.file.KeptFile.{KeptFile}
use Rattle.recipe_yaml.specs.declared.plans.Plan.{Plan}
use Rattle.recipe_yaml.specs.declared.plans.PlannedLeaf.{PlannedLeaf}
use Rattle.scheduler.specs.declared.fate.Fate.{Fate}
use Rattle.scheduler.specs.declared.fate.Fate.TheVariants.{Stays, Goes, Becomes}
use Rattle.scheduler.specs.Edits.{edits, generated}
use Rattle.scheduler.specs.Holds.{holds}
use Rattle.scheduler.specs.Runs.{each_leaf, generation, cycle, last_of, same_files, scanned}
use Rattle.scheduler.specs.Steps.{step_fates, stepped}

-- ---- an edit step

-- what becomes of the file of a number at the step of a leaf
unfoldable pub fate_of : Reads → Plan → PlannedLeaf → List (List ℕ) → State → ℕ → Fate
fate_of read plan leaf value files n = slice_index_or (step_fates read plan leaf value files) n Stays

-- The step removes the file at a path, as the leaf's edit says.
pub record IsRemoved (read : Reads) (plan : Plan) (leaf : PlannedLeaf) (value : List (List ℕ)) (files : State)
    (path : List ℕ) : Type 0 where
  pub number : ℕ
  pub stands : number < length files
  pub there : (file_at files number).path ≡ path
  pub runs : holds plan leaf files number ≡ true
  pub gives : edits leaf.recipe files number value ≡ edit.Remove
  pub goes : fate_of read plan leaf value files number ≡ Goes

-- A file becomes another by edits in ranges of the tree that it is read as: where it is kept as what it reads as, its
-- old bytes are gap, range, gap and so on, and the new ones are the same gaps in the same order, with the new text of
-- each range in its place.
pub record IsInRanges (f : KeptFile) (es : List Edit) (g : KeptFile) : Type 0 where
  pub tree : Arena
  pub bytes : List ℕ
  pub read_as : tree_in f.reading ≡ Some tree
  pub had : f.bytes ≡ Some bytes
  pub old_gaps : IsKept f → IsTree tree → old_bytes (pieces_of tree bytes es) ≡ bytes
  pub new_gaps : IsKept f → IsTree tree → g.bytes ≡ Some (new_bytes (pieces_of tree bytes es))

-- The step makes another file of one, as the leaf's edit says. The one stands at the path, or the other comes there,
-- where none stood.
pub record IsRewritten (read : Reads) (plan : Plan) (leaf : PlannedLeaf) (value : List (List ℕ)) (files : State)
    (path : List ℕ) : Type 0 where
  pub number : ℕ
  pub es : List Edit
  pub to : Option (List ℕ)
  pub other : KeptFile
  pub stands : number < length files
  pub there : (file_at files number).path ≡ path ⊎ ((other.path ≡ path) × (has_path files path ≡ false))
  pub runs : holds plan leaf files number ≡ true
  pub gives : edits leaf.recipe files number value ≡ edit.Edit es to
  pub becomes : fate_of read plan leaf value files number ≡ Becomes other
  pub ranges : IsInRanges (file_at files number) es other

-- A dropped edit touches nothing: the fate of its file is neither.
abbrev pub StepTouches : Reads → Plan → PlannedLeaf → List (List ℕ) → State → List ℕ → Type 0
StepTouches read plan leaf value files path =
    IsRemoved read plan leaf value files path ⊎ IsRewritten read plan leaf value files path

-- one of the steps of these leaves, one after another, in a cycle that began with the first state
unfoldable pub StepsTouch : Reads → Plan → State → List PlannedLeaf → State → List ℕ → Type 0
StepsTouch read plan first [] files path = ⊥
StepsTouch read plan first (leaf ∷ leaves) files path =
    let value = scanned leaf.recipe first in
    StepTouches read plan leaf value files path
    ⊎ StepsTouch read plan first leaves (stepped read plan leaf value files) path

-- ---- generation

-- The leaf makes a file at a path where none stood.
pub record IsMade (leaf : PlannedLeaf) (value : List (List ℕ)) (files : State) (path : List ℕ) : Type 0 where
  pub file : SourceFile
  pub made : Contains (generated leaf.recipe value) file
  pub there : file.path ≡ path
  pub free : has_path files path ≡ false

-- one of these leaves does, one after another
unfoldable pub OneMakes : Reads → State → List PlannedLeaf → State → List ℕ → Type 0
OneMakes read first [] files path = ⊥
OneMakes read first (leaf ∷ leaves) files path =
    let value = scanned leaf.recipe first in
    IsMade leaf value files path ⊎ OneMakes read first leaves (generation read leaf value files).state path

-- ---- cycles and runs

-- a leaf of the cycle makes a file at the path, or its step touches what stands there then
abbrev pub CycleTouches : Reads → Plan → State → List ℕ → Type 0
CycleTouches read plan files path =
    OneMakes read files plan.leaves files path
    ⊎ StepsTouch read plan files plan.leaves (last_of files (each_leaf (generation read) files plan.leaves files)) path

-- A run touches a path: one of the cycles that come does.
unfoldable pub IsTouched : Reads → Plan → ℕ → State → List ℕ → Type 0
IsTouched read plan zero files path = ⊥
IsTouched read plan (suc n) files path =
    let last = last_of files (cycle read plan files) in
    CycleTouches read plan files path
    ⊎ (((plan.again && not (same_files files last)) ≡ true) × IsTouched read plan n last path)
