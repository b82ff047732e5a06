-- The files that a leaf generates, one after another.
use Rattle.std.proofs.Common.{◌≡◌, ℕ, true, false, List, [], ◌∷◌, ◌++◌, refl, sym, ap, ◌∙◌}
use Rattle.rw_host.specs.declared.file.SourceFile.{SourceFile}
use Rattle.kept_files.specs.Readings.{Reads}
use Rattle.kept_files.specs.States.{State, has_path, put_file}
use Rattle.kept_files.specs.declared.file.KeptFile.{KeptFile}
use Rattle.scheduler.specs.declared.event.Event.{Event}
use Rattle.recipe_yaml.specs.declared.plans.PlannedLeaf.{PlannedLeaf}
use Rattle.j_repair.specs.Changes.{file_of}
use Rattle.scheduler.specs.Edits.{generated}
use Rattle.scheduler.specs.Runs.{Stage, refusal_of, with_file, with_files, generation}

abbrev pub stage : State → List Event → Stage
stage files events = record { state = files; events = events }

module _ (read : Reads) (s : SourceFile) (files : State) (events : List Event) where
  pub path_there : has_path files s.path ≡ true → with_file read s (stage files events) ≡ stage files events
  path_there e = rw e refl

  pub path_free : (f : KeptFile) (more : State) (told : List Event) → has_path files s.path ≡ false → f ≡ file_of read s → more ≡ put_file f files → told ≡ events ++ refusal_of f → with_file read s (stage files events) ≡ stage more told
  path_free f more told e is p t =
      let q : put_file (file_of read s) files ≡ more = ap (λ g. put_file g files) (sym is) ∙ sym p in
      let u : events ++ refusal_of (file_of read s) ≡ told = ap (λ g. events ++ refusal_of g) (sym is) ∙ sym t in
      rw e (λ i. stage (q i) (u i))

pub ruleset file_added = (path_there, path_free)

module _ (read : Reads) (xs : List SourceFile) (a all : Stage) where
  pub added_more : (s : SourceFile) (ss : List SourceFile) (b : Stage) → xs ≡ s ∷ ss → with_file read s a ≡ b → with_files read xs a ≡ all → with_files read ss b ≡ all
  added_more s ss b is h e = ap (with_files read ss) (sym h) ∙ (sym (ap (λ ys. with_files read ys a) is) ∙ e)

  pub added_end : xs ≡ [] → with_files read xs a ≡ all → all ≡ a
  added_end is e = sym e ∙ ap (λ ys. with_files read ys a) is

pub generation_is : (read : Reads) (l : PlannedLeaf) (value : List (List ℕ)) (files again : State) (ss : List SourceFile) → ss ≡ generated l.recipe value → again ≡ files → with_files read ss (stage again []) ≡ generation read l value files
unfolding generation
generation_is read l value files again ss e h = ap (λ x. with_files read x (stage again [])) e ∙ ap (λ x. with_files read (generated l.recipe value) (stage x [])) h

pub ruleset all_added = (added_more, added_end, generation_is)
