-- What a file that a step alters comes from.
use Rattle.std.proofs.Common.{◌≡◌, ◌⊎◌, inl, inr, ℕ, ◌+◌, ◌<◌, ◌||◌, true, false, List, [], ◌∷◌, ◌++◌, length}
use Rattle.std.proofs.Common.{drop, refl, ◌∙◌}
use Rattle.std.specs.Prelude.{if◌then◌else◌, Option, Some, Contains, unwrap_or}
use Rattle.std.specs.List.{AllByRecursion}
use Rattle.std.proofs.lemmas.List.{get_or_default}
use Rattle.std.specs.Str.{bytes_eq}
use Rattle.std.specs.Ordering.{match_ordering, nat_cmp}
use Rattle.std.specs.Cmp.Lexicographic.{slice_cmp}
use Rattle.std.specs.declared.cmp.Ordering.{Ordering}
use Rattle.std.specs.declared.cmp.Ordering.TheVariants.{Less, Equal, Greater}
use Rattle.rw_base.specs.declared.edit.Edit.{Edit}
use Rattle.rw_host.specs.declared.file.FileEdit.{FileEdit}
use Rattle.rw_host.specs.declared.file.FileEdit.TheVariants as edit
use Rattle.kept_files.specs.Readings.{Reads}
use Rattle.kept_files.specs.declared.reading.Reading.{Reading}
use Rattle.kept_files.specs.declared.reading.Reading.TheVariants as reading
use Rattle.kept_files.specs.FileEdits.{edited}
use Rattle.kept_files.specs.States.{State, file_at, no_file, has_path, put_file}
use Rattle.kept_files.specs.declared.file.KeptFile.{KeptFile}
use Rattle.recipe_yaml.specs.declared.plans.Plan.{Plan}
use Rattle.recipe_yaml.specs.declared.plans.PlannedLeaf.{PlannedLeaf}
use Rattle.scheduler.specs.declared.fate.Fate.{Fate}
use Rattle.scheduler.specs.declared.fate.Fate.TheVariants.{Stays, Goes, Lost, Taken, Becomes}
use Rattle.scheduler.specs.Edits.{edits}
use Rattle.scheduler.specs.Holds.{holds}
use Rattle.scheduler.specs.Fates.{accepted, fate, fate_at, fates_from, settled, is_among}
use Rattle.scheduler.specs.Steps.{beside, left_at, moved_from, left, moved, put_files, next, step_fates, stepped}
use Rattle.scheduler.specs.Untouched.{IsEdited}
use Rattle.scheduler.proofs.Spared.{first_is}

-- ---- what holds of each file of a state and of each file that is to come

module _ (P : KeptFile → Type 0) where
  abbrev pub AllFiles : State → Type 0
  AllFiles files = AllByRecursion P files

  abbrev pub OfFate : Fate → Type 0
  OfFate (Becomes g) = P g
  OfFate d = Unit {0}

  abbrev pub OfFates : List Fate → Type 0
  OfFates ds = AllByRecursion OfFate ds

  put_by : (g f : KeptFile) (fs more : State) (r : Ordering) → P g → P f → AllFiles fs → AllFiles more
      → AllFiles (match_ordering r (g ∷ f ∷ fs) (g ∷ fs) (f ∷ more))
  put_by g f fs more Less p q a b = (p, (q, a))
  put_by g f fs more Equal p q a b = (p, a)
  put_by g f fs more Greater p q a b = (q, b)

  put_all : (g : KeptFile) (fs : State) → P g → AllFiles fs → AllFiles (put_file g fs)
  unfolding put_file
  put_all g [] p a = (p, tt)
  put_all g (f ∷ fs) p a = put_by g f fs (put_file g fs) (slice_cmp nat_cmp g.path f.path) p a.0 a.1
      (put_all g fs p a.1)

  puts_all : (gs fs : State) → AllFiles gs → AllFiles fs → AllFiles (put_files gs fs)
  puts_all [] fs b a = a
  puts_all (g ∷ gs) fs b a = puts_all gs (put_file g fs) b.1 (put_all g fs b.0 a)

  left_at_all : (f : KeptFile) (d : Fate) (rest : State) → P f → OfFate d → AllFiles rest
      → AllFiles (left_at f d ++ rest)
  left_at_all f Stays rest p q a = (p, a)
  left_at_all f Goes rest p q a = a
  left_at_all f (Lost r) rest p q a = (p, a)
  left_at_all f Taken rest p q a = (p, a)
  left_at_all f (Becomes g) rest p q a =
      elim (bytes_eq g.path f.path) as
      (λ b. AllFiles ((if b then g ∷ [] else []) ++ rest)) [ true ↦ (q, a) | false ↦ a ]

  left_all : (fs : State) (ds : List Fate) → AllFiles fs → OfFates ds → AllFiles (left fs ds)
  unfolding beside
  left_all [] ds a b = tt
  left_all (f ∷ fs) [] a b = tt
  left_all (f ∷ fs) (d ∷ ds) a b = left_at_all f d (left fs ds) a.0 b.0 (left_all fs ds a.1 b.1)

  moved_at_all : (f : KeptFile) (d : Fate) (rest : State) → OfFate d → AllFiles rest → AllFiles (moved_from f d ++ rest)
  moved_at_all f Stays rest q a = a
  moved_at_all f Goes rest q a = a
  moved_at_all f (Lost r) rest q a = a
  moved_at_all f Taken rest q a = a
  moved_at_all f (Becomes g) rest q a =
      elim (bytes_eq g.path f.path) as
      (λ b. AllFiles ((if b then [] else g ∷ []) ++ rest)) [ true ↦ a | false ↦ (q, a) ]

  moved_all : (fs : State) (ds : List Fate) → OfFates ds → AllFiles (moved fs ds)
  unfolding beside
  moved_all [] ds b = tt
  moved_all (f ∷ fs) [] b = tt
  moved_all (f ∷ fs) (d ∷ ds) b = moved_at_all f d (moved fs ds) b.0 (moved_all fs ds b.1)

  next_all : (fs : State) (ds : List Fate) → AllFiles fs → OfFates ds → AllFiles (next fs ds)
  unfolding next
  next_all fs ds a b = puts_all (moved fs ds) (left fs ds) (moved_all fs ds b) (left_all fs ds a b)

  settled_becomes : (stood : State) (taken : List (List ℕ)) (f g : KeptFile) (fs : State) (ds : List Fate) → P g
      → ((more : List (List ℕ)) → OfFates (settled stood more fs ds))
      → OfFates (settled stood taken (f ∷ fs) (Becomes g ∷ ds))
  unfolding settled
  settled_becomes stood taken f g fs ds p all =
      elim (bytes_eq g.path f.path) as
      (λ b. OfFates (if b then Becomes g ∷ settled stood taken fs ds
      else if has_path stood g.path || is_among g.path taken then Taken ∷ settled stood taken fs ds
      else Becomes g ∷ settled stood (taken ++ g.path ∷ []) fs ds)) [
        | true ↦ (p, all taken)
        | false ↦ elim (has_path stood g.path || is_among g.path taken) as
            (λ b. OfFates (if b then Taken ∷ settled stood taken fs ds else Becomes g ∷ settled stood
            (taken ++ g.path ∷ []) fs ds)) [
              | true ↦ (tt, all taken)
              | false ↦ (p, all (taken ++ g.path ∷ []))
            ]
      ]

  settled_all : (stood : State) (taken : List (List ℕ)) (fs : State) (ds : List Fate) → OfFates ds
      → OfFates (settled stood taken fs ds)
  unfolding settled
  settled_all stood taken [] ds b = tt
  settled_all stood taken (f ∷ fs) [] b = tt
  settled_all stood taken (f ∷ fs) (Stays ∷ ds) b = (tt, settled_all stood taken fs ds b.1)
  settled_all stood taken (f ∷ fs) (Goes ∷ ds) b = (tt, settled_all stood taken fs ds b.1)
  settled_all stood taken (f ∷ fs) (Lost r ∷ ds) b = (tt, settled_all stood taken fs ds b.1)
  settled_all stood taken (f ∷ fs) (Taken ∷ ds) b = (tt, settled_all stood taken fs ds b.1)
  settled_all stood taken (f ∷ fs) (Becomes g ∷ ds) b =
      settled_becomes stood taken f g fs ds b.0 (λ more. settled_all stood more fs ds b.1)

-- ---- a step

module _ (read : Reads) (plan : Plan) (leaf : PlannedLeaf) (value : List (List ℕ)) (files : State) where
  -- an old file, or one that the leaf has edited
  abbrev pub IsOldOrEdited : KeptFile → Type 0
  IsOldOrEdited g = Contains files g ⊎ IsEdited plan leaf value files g

  accepted_edit : (n : ℕ) (es : List Edit) (path : Option (List ℕ)) (at : List ℕ) (r : Reading) → n < length files
      → holds plan leaf files n ≡ true
      → edits leaf.recipe files n value ≡ edit.Edit es path
      → OfFate IsOldOrEdited (accepted at (edited (file_at files n) es) r)
  accepted_edit n es path at (reading.Refused x) lt h e = tt
  accepted_edit n es path at (reading.Java t) lt h e =
      inr (record { number = n; es = es; path = path; stands = lt; runs = h; gives = e; bytes = refl })
  accepted_edit n es path at (reading.Yaml t) lt h e =
      inr (record { number = n; es = es; path = path; stands = lt; runs = h; gives = e; bytes = refl })
  accepted_edit n es path at (reading.Properties t) lt h e =
      inr (record { number = n; es = es; path = path; stands = lt; runs = h; gives = e; bytes = refl })
  accepted_edit n es path at reading.Unread lt h e =
      inr (record { number = n; es = es; path = path; stands = lt; runs = h; gives = e; bytes = refl })

  of_edit : (n : ℕ) (x : FileEdit) → n < length files → holds plan leaf files n ≡ true
      → edits leaf.recipe files n value ≡ x → OfFate IsOldOrEdited (fate read (file_at files n) x)
  unfolding fate
  of_edit n edit.Keep lt h e = tt
  of_edit n edit.Remove lt h e = tt
  of_edit n edit.Found lt h e = tt
  of_edit n (edit.Edit es path) lt h e =
      let at = unwrap_or path (file_at files n).path in
      accepted_edit n es path at (read at (Some (edited (file_at files n) es))) lt h e

  of_fate : (n : ℕ) → n < length files → OfFate IsOldOrEdited (fate_at read plan leaf value files n)
  unfolding fate_at
  of_fate n lt =
      elim (holds plan leaf files n) as
      (λ b. holds plan leaf files n ≡ b
      → OfFate IsOldOrEdited (if b then fate read (file_at files n) (edits leaf.recipe files n value) else Stays)) [
        | true ↦ λ h. of_edit n (edits leaf.recipe files n value) lt h refl
        | false ↦ λ h. tt
      ] refl

  fates_of : (n : ℕ) (fs : State) → drop n files ≡ fs
      → OfFates IsOldOrEdited (fates_from read plan leaf value files n fs)
  unfolding fates_from
  fates_of n [] e = tt
  fates_of n (f ∷ fs) e =
      let at = first_is files n f fs e in
      (of_fate n at.0, fates_of (n + 1) fs at.1.1)

  old_of : (n : ℕ) (fs : State) → drop n files ≡ fs → AllFiles IsOldOrEdited fs
  unfolding file_at
  old_of n [] e = tt
  old_of n (f ∷ fs) e =
      let at = first_is files n f fs e in
      (inl (n, at.0, get_or_default files n f no_file at.0 ∙ at.1.0), old_of (n + 1) fs at.1.1)

  pub stepped_of : AllFiles IsOldOrEdited (stepped read plan leaf value files)
  unfolding stepped step_fates
  stepped_of =
      let ds = settled files [] files (fates_from read plan leaf value files 0 files) in
      next_all IsOldOrEdited files ds (old_of 0 files refl)
      (settled_all IsOldOrEdited files [] files (fates_from read plan leaf value files 0 files)
      (fates_of 0 files refl))
