-- What becomes of each file at an edit step.
use Rattle.std.specs.Prelude.{ℕ, ◌+◌, ◌||◌, Bool, List, [], ◌∷◌, ◌++◌, Some, unwrap_or, if◌then◌else◌}
use Rattle.std.specs.List.{list_any}
use Rattle.std.specs.Str.{bytes_eq}
use Rattle.kept_files.specs.declared.reading.Reading.{Reading}
use Rattle.kept_files.specs.declared.reading.Reading.TheVariants as reading
use Rattle.rw_host.specs.declared.file.FileEdit.{FileEdit}
use Rattle.rw_host.specs.declared.file.FileEdit.TheVariants as edit
use Rattle.kept_files.specs.Readings.{Reads}
use Rattle.kept_files.specs.FileEdits.{edited}
use Rattle.kept_files.specs.States.{State, file_at, has_path}
use Rattle.kept_files.specs.declared.file.KeptFile.{KeptFile}
use Rattle.recipe_yaml.specs.declared.plans.Plan.{Plan}
use Rattle.recipe_yaml.specs.declared.plans.PlannedLeaf.{PlannedLeaf}
use Rattle.scheduler.specs.declared.fate.Fate.{Fate}
use Rattle.scheduler.specs.declared.fate.Fate.TheVariants.{Stays, Goes, Lost, Taken, Becomes}
use Rattle.scheduler.specs.Edits.{edits}
use Rattle.scheduler.specs.Holds.{holds}

-- ---- one file

-- a file of these bytes, where its reader doesn't refuse them
abbrev pub accepted : List ℕ → List ℕ → Reading → Fate
accepted path bytes (reading.Refused r) = Lost r
accepted path bytes r = Becomes (record { path = path; bytes = Some bytes; reading = r })

abbrev pub read_anew : Reads → List ℕ → List ℕ → Fate
read_anew read path bytes = accepted path bytes (read path (Some bytes))

-- what a recipe's edit makes of a file, before it is known whether its new path is free
unfoldable pub fate : Reads → KeptFile → FileEdit → Fate
fate read f (edit.Edit es path) = read_anew read (unwrap_or path f.path) (edited f es)
fate read f edit.Remove = Goes
fate read f _ = Stays

-- what a leaf makes of the file of a number, by a state
unfoldable pub fate_at : Reads → Plan → PlannedLeaf → List (List ℕ) → State → ℕ → Fate
fate_at read plan leaf value files n =
    if holds plan leaf files n then fate read (file_at files n) (edits leaf.recipe files n value) else Stays

-- what it makes of the files from this number on
unfoldable pub fates_from : Reads → Plan → PlannedLeaf → List (List ℕ) → State → ℕ → State → List Fate
fates_from read plan leaf value files n [] = []
fates_from read plan leaf value files n (f ∷ fs) =
    fate_at read plan leaf value files n ∷ fates_from read plan leaf value files (n + 1) fs

-- ---- new paths

abbrev pub is_among : List ℕ → List (List ℕ) → Bool
is_among path taken = list_any (λ p. bytes_eq p path) taken

-- One file after another: a new path that isn't the file's own is taken where a file stood there before the step, or
-- where an earlier file went there.
unfoldable pub settled : State → List (List ℕ) → State → List Fate → List Fate
settled stood taken [] ds = []
settled stood taken (f ∷ fs) [] = []
settled stood taken (f ∷ fs) (Becomes g ∷ ds) =
    if bytes_eq g.path f.path then Becomes g ∷ settled stood taken fs ds
    else if has_path stood g.path || is_among g.path taken then Taken ∷ settled stood taken fs ds
    else Becomes g ∷ settled stood (taken ++ g.path ∷ []) fs ds
settled stood taken (f ∷ fs) (d ∷ ds) = d ∷ settled stood taken fs ds
