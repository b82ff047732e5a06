-- A path that a run leaves alone.
use Rattle.std.proofs.Common.{◌≡◌, ℕ, zero, suc, Bool, ◌&&◌, not, true, false, List, [], ◌∷◌, ◌++◌, refl, sym, ap}
use Rattle.std.proofs.Common.{subst, ◌∙◌}
use Rattle.std.specs.Prelude.{if◌then◌else◌, MatchBool}
use Rattle.std.specs.List.{AllByRecursion}
use Rattle.rw_host.specs.declared.file.SourceFile.{SourceFile}
use Rattle.kept_files.specs.Readings.{Reads}
use Rattle.kept_files.specs.States.{State, has_path, put_file}
use Rattle.recipe_yaml.specs.declared.plans.Plan.{Plan}
use Rattle.recipe_yaml.specs.declared.plans.PlannedLeaf.{PlannedLeaf}
use Rattle.j_repair.specs.Changes.{file_of}
use Rattle.scheduler.specs.declared.event.Event.{Event}
use Rattle.scheduler.specs.Edits.{generated}
use Rattle.scheduler.specs.Runs.{Stage, Phase, Run, with_file, with_files, refusal_of, generation, edit_step}
use Rattle.scheduler.specs.Runs.{each_leaf, scanned, last_of, cycle, run, ends_with, same_files, reached, end}
use Rattle.scheduler.specs.Steps.{stepped}
use Rattle.scheduler.specs.Untouched.{at_path, StepsSpare, CycleSpares, RunSpares, IsUntouched}
use Rattle.scheduler.proofs.Onward.{lasts}
use Rattle.scheduler.proofs.Standing.{put_elsewhere, still_there, none_there, other_path, AreInOrder, order_put}
use Rattle.scheduler.proofs.Spared.{step_same, step_order}

-- ---- what holds of each stage

all_append : (P : Stage → Type 0) (xs ys : List Stage) → AllByRecursion P xs → AllByRecursion P ys
    → AllByRecursion P (xs ++ ys)
all_append P [] ys a b = b
all_append P (x ∷ xs) ys a b = (a.0, all_append P xs ys a.1 b)

pub all_last : (P : State → Type 0) (files : State) (stages : List Stage) → P files
    → AllByRecursion (λ stage. P stage.state) stages → P (last_of files stages)
all_last P files [] p a = p
all_last P files (s ∷ ss) p a = all_last P s.state ss a.0 a.1

-- a cycle's own stages, and those of the cycles behind it
behind_cycle : (P : Stage → Type 0) (stages : List Stage) (more : Run) (goes : Bool) → AllByRecursion P stages
    → (goes ≡ true → AllByRecursion P more.stages)
    → AllByRecursion P (if goes then ends_with stages more
    else record { stages = stages; cycles = 1; still_changing = false }).stages
behind_cycle P stages more true a b = all_append P stages more.stages a (b refl)
behind_cycle P stages more false a b = a

module _ (path : List ℕ) where
  -- the same stands at the path as in a state
  abbrev pub AreSameAt : State → List Stage → Type 0
  AreSameAt files stages = AllByRecursion (λ stage. at_path path stage.state ≡ at_path path files) stages

  all_through : (f g : State) (stages : List Stage) → at_path path g ≡ at_path path f → AreSameAt g stages
      → AreSameAt f stages
  all_through f g [] e a = tt
  all_through f g (s ∷ ss) e a = (a.0 ∙ e, all_through f g ss e a.1)

  last_same : (files : State) (stages : List Stage) → AreSameAt files stages
      → at_path path (last_of files stages) ≡ at_path path files
  last_same files stages a = all_last (λ fs. at_path path fs ≡ at_path path files) files stages refl a

  -- ---- generators

  with_file_same : (read : Reads) (s : SourceFile) (stage : Stage) → has_path stage.state path ≡ true
      → at_path path (with_file read s stage).state ≡ at_path path stage.state
  unfolding file_of
  with_file_same read s stage t =
      elim (has_path stage.state s.path) as
      (λ b. has_path stage.state s.path ≡ b
      → at_path path (if b then stage
      else record {
        state = put_file (file_of read s) stage.state;
        events =
            stage.events ++ refusal_of (file_of read s);
      }).state ≡ at_path path stage.state) [
        | true ↦ λ there. refl
        | false ↦ λ free. put_elsewhere path (file_of read s) stage.state (other_path path s.path stage.state t free)
      ] refl

  with_files_same : (read : Reads) (ss : List SourceFile) (stage : Stage) → has_path stage.state path ≡ true
      → at_path path (with_files read ss stage).state ≡ at_path path stage.state
  with_files_same read [] stage t = refl
  with_files_same read (s ∷ ss) stage t =
      let e = with_file_same read s stage t in
      with_files_same read ss (with_file read s stage)
      (still_there path stage.state (with_file read s stage).state e t) ∙ e

  pub generation_same : (read : Reads) (leaf : PlannedLeaf) (value : List (List ℕ)) (files : State)
      → has_path files path ≡ true → at_path path (generation read leaf value files).state ≡ at_path path files
  unfolding generation
  generation_same read leaf value files t =
      with_files_same read (generated leaf.recipe value) (record { state = files; events = [] }) t

  -- ---- phases

  generations_same : (read : Reads) (first : State) (leaves : List PlannedLeaf) (files : State)
      → has_path files path ≡ true → AreSameAt files (each_leaf (generation read) first leaves files)
  unfolding each_leaf
  generations_same read first [] files t = tt
  generations_same read first (leaf ∷ leaves) files t =
      let stage : Stage = generation read leaf (scanned leaf.recipe first) files in
      let e : at_path path stage.state ≡ at_path path files =
      generation_same read leaf (scanned leaf.recipe first) files t in (
        e,
        all_through files stage.state (each_leaf (generation read) first leaves stage.state) e
            (generations_same read first leaves stage.state (still_there path files stage.state e t)),
      )

  steps_same : (read : Reads) (plan : Plan) (first : State) (leaves : List PlannedLeaf) (files : State)
      → StepsSpare read plan first leaves files path → has_path files path ≡ true
      → AreSameAt files (each_leaf (edit_step read plan) first leaves files)
  unfolding each_leaf edit_step StepsSpare
  steps_same read plan first [] files s t = tt
  steps_same read plan first (leaf ∷ leaves) files s t =
      let after : State = stepped read plan leaf (scanned leaf.recipe first) files in
      let e : at_path path after ≡ at_path path files =
      step_same read plan leaf (scanned leaf.recipe first) files path s.0 t in (
        e,
        all_through files after (each_leaf (edit_step read plan) first leaves after) e
            (steps_same read plan first leaves after s.1 (still_there path files after e t)),
      )

  -- ---- cycles and runs

  cycle_same : (read : Reads) (plan : Plan) (files : State) → CycleSpares read plan files path
      → has_path files path ≡ true → AreSameAt files (cycle read plan files)
  unfolding cycle
  cycle_same read plan files s t =
      let made = each_leaf (generation read) files plan.leaves files in
      let a : AreSameAt files made = generations_same read files plan.leaves files t in
      let e : at_path path (last_of files made) ≡ at_path path files = last_same files made a in
      all_append (λ stage. at_path path stage.state ≡ at_path path files) made
      (each_leaf (edit_step read plan) files plan.leaves (last_of files made)) a
      (all_through files (last_of files made) (each_leaf (edit_step read plan) files plan.leaves (last_of files made)) e
      (steps_same read plan files plan.leaves (last_of files made) s (still_there path files (last_of files made) e t)))

  run_same : (read : Reads) (plan : Plan) (cycles : ℕ) (files : State) → RunSpares read plan cycles files path
      → has_path files path ≡ true → AreSameAt files (run read plan cycles files).stages
  unfolding run RunSpares
  run_same read plan zero files s t = tt
  run_same read plan (suc n) files s t =
      let stages = cycle read plan files in
      let last = last_of files stages in
      let a : AreSameAt files stages = cycle_same read plan files s.0 t in
      let e : at_path path last ≡ at_path path files = last_same files stages a in
      behind_cycle (λ stage. at_path path stage.state ≡ at_path path files) stages (run read plan n last)
      (plan.again && not (same_files files last)) a
      (λ goes. all_through files last (run read plan n last).stages e
      (run_same read plan n last (s.1 goes) (still_there path files last e t)))

  -- ---- what stands at a path that a run leaves alone

  absent_same : (files : State) (stages : List Stage) → has_path files path ≡ false
      → AllByRecursion (λ stage. has_path stage.state path ≡ false) stages → AreSameAt files stages
  absent_same files [] f a = tt
  absent_same files (s ∷ ss) f a =
      (none_there path s.state a.0 ∙ sym (none_there path files f), absent_same files ss f a.1)

  pub untouched_same : (read : Reads) (plan : Plan) (cycles : ℕ) (files : State)
      → IsUntouched read plan cycles files path → AreSameAt files (run read plan cycles files).stages
  unfolding IsUntouched
  untouched_same read plan cycles files u =
      elim (has_path files path) as (λ b. has_path files path ≡ b
      → MatchBool b (RunSpares read plan cycles files path)
      (AllByRecursion (λ stage. has_path stage.state path ≡ false) (run read plan cycles files).stages)
      → AreSameAt files (run read plan cycles files).stages) [
        | true ↦ λ there spares. run_same read plan cycles files spares there
        | false ↦ λ absent none. absent_same files (run read plan cycles files).stages absent none
      ] refl u

  pub untouched_last : (read : Reads) (plan : Plan) (cycles : ℕ) (files last : State) (events : List Event)
      → IsUntouched read plan cycles files path
      → reached files [] (run read plan cycles files).stages ≡ end last events → at_path path last ≡ at_path path files
  untouched_last read plan cycles files last events u e =
      let stages = (run read plan cycles files).stages in
      sym (ap (at_path path) (lasts files last [] events stages e))
      ∙ last_same files stages (untouched_same read plan cycles files u)

-- ---- the order of paths

with_files_order : (read : Reads) (ss : List SourceFile) (stage : Stage) → AreInOrder stage.state
    → AreInOrder (with_files read ss stage).state
with_files_order read [] stage k = k
with_files_order read (s ∷ ss) stage k = with_files_order read ss (with_file read s stage) one where
  one : AreInOrder (with_file read s stage).state
  one = elim (has_path stage.state s.path) as
      (λ b. AreInOrder (if b then stage
      else record {
        state = put_file (file_of read s) stage.state;
        events =
            stage.events ++ refusal_of (file_of read s);
      }).state) [
        | true ↦ k
        | false ↦ order_put (file_of read s) stage.state k
      ]

abbrev AllInOrder : List Stage → Type 0
AllInOrder stages = AllByRecursion (λ stage. AreInOrder stage.state) stages

-- a phase that keeps the order of paths
abbrev KeepsOrder : Phase → Type 0
KeepsOrder phase = (leaf : PlannedLeaf) (value : List (List ℕ)) (files : State) → AreInOrder files
    → AreInOrder (phase leaf value files).state

phase_order : (phase : Phase) → KeepsOrder phase → (first : State) (leaves : List PlannedLeaf) (files : State)
    → AreInOrder files → AllInOrder (each_leaf phase first leaves files)
unfolding each_leaf
phase_order phase keeps first [] files k = tt
phase_order phase keeps first (leaf ∷ leaves) files k =
    let after = keeps leaf (scanned leaf.recipe first) files k in
    (after, phase_order phase keeps first leaves (phase leaf (scanned leaf.recipe first) files).state after)

generation_order : (read : Reads) → KeepsOrder (generation read)
unfolding generation
generation_order read leaf value files k =
    with_files_order read (generated leaf.recipe value) (record { state = files; events = [] }) k

edit_order : (read : Reads) (plan : Plan) → KeepsOrder (edit_step read plan)
unfolding edit_step
edit_order read plan leaf value files k = step_order read plan leaf value files k

cycle_order : (read : Reads) (plan : Plan) (files : State) → AreInOrder files → AllInOrder (cycle read plan files)
unfolding cycle
cycle_order read plan files k =
    let made = each_leaf (generation read) files plan.leaves files in
    let a = phase_order (generation read) (generation_order read) files plan.leaves files k in
    all_append (λ stage. AreInOrder stage.state) made
    (each_leaf (edit_step read plan) files plan.leaves (last_of files made)) a
    (phase_order (edit_step read plan) (edit_order read plan) files plan.leaves (last_of files made)
    (all_last AreInOrder files made k a))

run_order : (read : Reads) (plan : Plan) (cycles : ℕ) (files : State) → AreInOrder files
    → AllInOrder (run read plan cycles files).stages
unfolding run
run_order read plan zero files k = tt
run_order read plan (suc n) files k =
    let stages = cycle read plan files in
    let last = last_of files stages in
    let a = cycle_order read plan files k in
    behind_cycle (λ stage. AreInOrder stage.state) stages (run read plan n last)
    (plan.again && not (same_files files last)) a
    (λ goes. run_order read plan n last (all_last AreInOrder files stages k a))

pub last_order : (read : Reads) (plan : Plan) (cycles : ℕ) (files last : State) (events : List Event) → AreInOrder files
    → reached files [] (run read plan cycles files).stages ≡ end last events → AreInOrder last
last_order read plan cycles files last events k e =
    let stages = (run read plan cycles files).stages in
    subst AreInOrder (lasts files last [] events stages e)
    (all_last AreInOrder files stages k (run_order read plan cycles files k))
