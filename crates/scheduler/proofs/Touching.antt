-- A path has the same file behind a step or a run, or it is touched.
use Rattle.std.proofs.Common.{◌≡◌, ◌⊎◌, inl, inr, ℕ, zero, suc, ◌+◌, ◌<◌, ◌||◌, ◌&&◌, not, Bool, true, false, List, []}
use Rattle.std.proofs.Common.{◌∷◌, ◌++◌, length, get_or, refl, sym, ap, subst, ◌∙◌, arith}
use Rattle.std.specs.Prelude.{if◌then◌else◌, Option, Some, Contains, unwrap_or}
use Rattle.std.proofs.lemmas.Bool.{both_ways, cases_Bool}
use Rattle.std.proofs.lemmas.Slice.Eq.{bytes_eq-Decides}
use Rattle.std.specs.Str.{bytes_eq}
use Rattle.rw_base.specs.declared.edit.Edit.{Edit}
use Rattle.rw_host.specs.declared.file.FileEdit.{FileEdit}
use Rattle.rw_host.specs.declared.file.FileEdit.TheVariants as edit
use Rattle.rw_host.specs.declared.file.SourceFile.{SourceFile}
use Rattle.kept_files.specs.Readings.{Reads}
use Rattle.kept_files.specs.declared.reading.Reading.{Reading}
use Rattle.kept_files.specs.declared.reading.Reading.TheVariants as reading
use Rattle.kept_files.specs.FileEdits.{edited}
use Rattle.kept_files.specs.States.{State, file_at, no_file, has_path, put_file}
use Rattle.kept_files.specs.declared.file.KeptFile.{KeptFile}
use Rattle.recipe_yaml.specs.declared.plans.Plan.{Plan}
use Rattle.recipe_yaml.specs.declared.plans.PlannedLeaf.{PlannedLeaf}
use Rattle.j_repair.specs.Changes.{file_of}
use Rattle.scheduler.specs.declared.event.Event.{Event}
use Rattle.scheduler.specs.declared.fate.Fate.{Fate}
use Rattle.scheduler.specs.declared.fate.Fate.TheVariants.{Stays, Goes, Lost, Taken, Becomes}
use Rattle.scheduler.specs.Edits.{edits, generated}
use Rattle.scheduler.specs.Holds.{holds}
use Rattle.scheduler.specs.Fates.{accepted, fate, fate_at, fates_from, settled, is_among}
use Rattle.scheduler.specs.Runs.{Stage, Run, with_file, with_files, refusal_of, generation, edit_step, each_leaf}
use Rattle.scheduler.specs.Runs.{scanned, last_of, cycle, run, ends_with, same_files, reached, end}
use Rattle.scheduler.specs.Steps.{step_fates, stepped}
use Rattle.scheduler.specs.Touched.{CycleTouches, IsMade, IsRemoved, IsRewritten, IsTouched, OneMakes, StepTouches}
use Rattle.scheduler.specs.Touched.{StepsTouch, fate_of}
use Rattle.scheduler.specs.Untouched.{at_path}
use Rattle.scheduler.proofs.Fitting.{edits_fit, in_ranges}
use Rattle.scheduler.proofs.Onward.{lasts}
use Rattle.scheduler.proofs.Spared.{AreSparing, GoesNotTo, StaysAt, next_same}
use Rattle.scheduler.proofs.Standing.{put_elsewhere}
use Rattle.scheduler.proofs.Untouched.{generation_same}

-- ---- what a fate at a number tells of the leaf's edit

goes_not : (path bytes : List ℕ) (r : Reading) → accepted path bytes r ≡ Goes → ⊥
goes_not path bytes (reading.Refused x) e = absurd (cc)
goes_not path bytes (reading.Java t) e = absurd (cc)
goes_not path bytes (reading.Yaml t) e = absurd (cc)
goes_not path bytes (reading.Properties t) e = absurd (cc)
goes_not path bytes reading.Unread e = absurd (cc)

has_bytes : (path bytes : List ℕ) (r : Reading) (g : KeptFile) → accepted path bytes r ≡ Becomes g
    → g.bytes ≡ Some bytes
has_bytes path bytes (reading.Refused x) g e = absurd (cc)
has_bytes path bytes (reading.Java t) g e =
    let is : record { path = path; bytes = Some bytes; reading = reading.Java t } ≡ g = cc in
    sym (ap (λ (f : KeptFile). f.bytes) is)
has_bytes path bytes (reading.Yaml t) g e =
    let is : record { path = path; bytes = Some bytes; reading = reading.Yaml t } ≡ g = cc in
    sym (ap (λ (f : KeptFile). f.bytes) is)
has_bytes path bytes (reading.Properties t) g e =
    let is : record { path = path; bytes = Some bytes; reading = reading.Properties t } ≡ g = cc in
    sym (ap (λ (f : KeptFile). f.bytes) is)
has_bytes path bytes reading.Unread g e =
    let is : record { path = path; bytes = Some bytes; reading = reading.Unread } ≡ g = cc in
    sym (ap (λ (f : KeptFile). f.bytes) is)

module _ (read : Reads) (f : KeptFile) where
  removes : (x : FileEdit) → fate read f x ≡ Goes → x ≡ edit.Remove
  unfolding fate
  removes edit.Keep e = absurd (cc)
  removes edit.Remove e = refl
  removes edit.Found e = absurd (cc)
  removes (edit.Edit es to) e =
      let at = unwrap_or to f.path in
      absurd (goes_not at (edited f es) (read at (Some (edited f es))) e)

  removes_by : (b : Bool) (x : FileEdit) → (if b then fate read f x else Stays) ≡ Goes
      → (b ≡ true) × (x ≡ edit.Remove)
  removes_by true x e = (refl, removes x e)
  removes_by false x e = absurd (cc)

  -- an edit of which this file comes
  abbrev Gives : FileEdit → KeptFile → Type 0
  Gives x g =
      (es : List Edit) × ((to : Option (List ℕ)) × ((x ≡ edit.Edit es to) × (g.bytes ≡ Some (edited f es))))

  rewrites : (x : FileEdit) (g : KeptFile) → fate read f x ≡ Becomes g → Gives x g
  unfolding fate
  rewrites edit.Keep g e = absurd (cc)
  rewrites edit.Remove g e = absurd (cc)
  rewrites edit.Found g e = absurd (cc)
  rewrites (edit.Edit es to) g e =
      let at = unwrap_or to f.path in
      (es, (to, (refl, has_bytes at (edited f es) (read at (Some (edited f es))) g e)))

  rewrites_by : (b : Bool) (x : FileEdit) (g : KeptFile) → (if b then fate read f x else Stays) ≡ Becomes g
      → (b ≡ true) × Gives x g
  rewrites_by true x g e = (refl, rewrites x g e)
  rewrites_by false x g e = absurd (cc)

-- ---- what is settled

or_first : (a b : Bool) → (a || b) ≡ false → a ≡ false
or_first true b e = absurd (cc)
or_first false b e = refl

-- a new path that isn't the file's own is free
abbrev IsFree : State → KeptFile → Fate → Type 0
IsFree stood f (Becomes g) = bytes_eq g.path f.path ≡ false → has_path stood g.path ≡ false
IsFree stood f d = Unit {0}

-- a fate is dropped, or it stays and its new path is free
abbrev IsSettled : State → KeptFile → Fate → Fate → Type 0
IsSettled stood f before d = (d ≡ Taken) ⊎ ((d ≡ before) × IsFree stood f d)

module _ (stood : State) where
  abbrev AreSettled : State → List Fate → List Fate → Type 0
  AreSettled [] before ds = Unit {0}
  AreSettled (f ∷ fs) [] ds = ⊥
  AreSettled (f ∷ fs) (b ∷ before) [] = ⊥
  AreSettled (f ∷ fs) (b ∷ before) (d ∷ ds) = IsSettled stood f b d × AreSettled fs before ds

  settled_becomes : (taken : List (List ℕ)) (f g : KeptFile) (fs : State) (ds : List Fate)
      → ((more : List (List ℕ)) → AreSettled fs ds (settled stood more fs ds))
      → AreSettled (f ∷ fs) (Becomes g ∷ ds) (settled stood taken (f ∷ fs) (Becomes g ∷ ds))
  unfolding settled
  settled_becomes taken f g fs ds all =
      elim (bytes_eq g.path f.path) as
      (λ b. bytes_eq g.path f.path ≡ b
      → AreSettled (f ∷ fs) (Becomes g ∷ ds) (if b then Becomes g ∷ settled stood taken fs ds
      else if has_path stood g.path || is_among g.path taken then Taken ∷ settled stood taken fs ds
      else Becomes g ∷ settled stood (taken ++ g.path ∷ []) fs ds)) [
        | true ↦ λ own. (inr (refl, (λ away. absurd (both_ways (bytes_eq g.path f.path) away own))), all taken)
        | false ↦ λ away. elim (has_path stood g.path || is_among g.path taken) as
            (λ b. (has_path stood g.path || is_among g.path taken) ≡ b
            → AreSettled (f ∷ fs) (Becomes g ∷ ds) (if b then Taken ∷ settled stood taken fs ds
            else Becomes g ∷ settled stood (taken ++ g.path ∷ []) fs ds)) [
              | true ↦ λ e. (inl refl, all taken)
              | false ↦ λ e. (
                inr (refl, (λ out. or_first (has_path stood g.path) (is_among g.path taken) e)),
                all (taken ++ g.path ∷ []),
              )
            ] refl
      ] refl

  are_settled : (taken : List (List ℕ)) (fs : State) (ds : List Fate) → length ds ≡ length fs
      → AreSettled fs ds (settled stood taken fs ds)
  unfolding settled
  are_settled taken [] ds e = tt
  are_settled taken (f ∷ fs) [] e = absurd (omega (arith, e))
  are_settled taken (f ∷ fs) (Stays ∷ ds) e = (inr (refl, tt), are_settled taken fs ds (omega (arith, e)))
  are_settled taken (f ∷ fs) (Goes ∷ ds) e = (inr (refl, tt), are_settled taken fs ds (omega (arith, e)))
  are_settled taken (f ∷ fs) (Lost r ∷ ds) e = (inr (refl, tt), are_settled taken fs ds (omega (arith, e)))
  are_settled taken (f ∷ fs) (Taken ∷ ds) e = (inr (refl, tt), are_settled taken fs ds (omega (arith, e)))
  are_settled taken (f ∷ fs) (Becomes g ∷ ds) e =
      settled_becomes taken f g fs ds (λ more. are_settled more fs ds (omega (arith, e)))

  settled_at : (fs : State) (before ds : List Fate) (n : ℕ) → AreSettled fs before ds → n < length fs
      → IsSettled stood (get_or fs n no_file) (get_or before n Stays) (get_or ds n Stays)
  settled_at [] before ds n s lt = absurd (omega arith)
  settled_at (f ∷ fs) [] ds n s lt = absurd s
  settled_at (f ∷ fs) (b ∷ before) [] n s lt = absurd s
  settled_at (f ∷ fs) (b ∷ before) (d ∷ ds) zero s lt = s.0
  settled_at (f ∷ fs) (b ∷ before) (d ∷ ds) (suc n) s lt = settled_at fs before ds n s.1 (omega arith)

-- ---- the first fate that touches a path

module _ (path : List ℕ) where
  -- a file at the path goes or becomes another, or one comes there from elsewhere
  abbrev Hits : KeptFile → Fate → Type 0
  Hits f Goes = f.path ≡ path
  Hits f (Becomes g) = (f.path ≡ path) ⊎ ((bytes_eq g.path f.path ≡ false) × (g.path ≡ path))
  Hits f d = ⊥

  abbrev Spares : KeptFile → Fate → Type 0
  Spares f d = StaysAt path f d × GoesNotTo path f d

  comes : (f g : KeptFile) → bytes_eq f.path path ≡ false → Hits f (Becomes g) ⊎ Spares f (Becomes g)
  comes f g other = elim (cases_Bool (bytes_eq g.path f.path)) [
    | inl own ↦ inr (
      (λ here. absurd (both_ways (bytes_eq f.path path) other here)),
      (λ away. absurd (both_ways (bytes_eq g.path f.path) away own)),
    )
    | inr away ↦ elim (cases_Bool (bytes_eq g.path path)) [
      | inl at ↦ inl (inr (away, (bytes_eq-Decides g.path path).0 at))
      | inr not_at ↦ inr ((λ here. absurd (both_ways (bytes_eq f.path path) other here)), (λ out. not_at))
    ]
  ]

  hits_or_spares : (f : KeptFile) (d : Fate) → Hits f d ⊎ Spares f d
  hits_or_spares f Stays = inr ((λ here. tt), tt)
  hits_or_spares f (Lost r) = inr ((λ here. tt), tt)
  hits_or_spares f Taken = inr ((λ here. tt), tt)
  hits_or_spares f Goes = elim (cases_Bool (bytes_eq f.path path)) [
    | inl here ↦ inl ((bytes_eq-Decides f.path path).0 here)
    | inr other ↦ inr ((λ here. absurd (both_ways (bytes_eq f.path path) other here)), tt)
  ]
  hits_or_spares f (Becomes g) = elim (cases_Bool (bytes_eq f.path path)) [
    | inl here ↦ inl (inl ((bytes_eq-Decides f.path path).0 here))
    | inr other ↦ comes f g other
  ]

  abbrev Hit : State → List Fate → Type 0
  Hit fs ds = (n : ℕ) × ((n < length fs) × Hits (get_or fs n no_file) (get_or ds n Stays))

  later : (f : KeptFile) (d : Fate) (fs : State) (ds : List Fate) → Hit fs ds → Hit (f ∷ fs) (d ∷ ds)
  later f d fs ds (n, (lt, h)) = (suc n, (omega (arith, lt), h))

  first_hit : (fs : State) (before ds : List Fate) (stood : State) → AreSettled stood fs before ds
      → Hit fs ds ⊎ AreSparing path fs ds
  first_hit [] before ds stood s = inr tt
  first_hit (f ∷ fs) [] ds stood s = absurd s
  first_hit (f ∷ fs) (b ∷ before) [] stood s = absurd s
  first_hit (f ∷ fs) (b ∷ before) (d ∷ ds) stood s = elim (hits_or_spares f d) [
    | inl h ↦ inl (zero, (omega arith, h))
    | inr spares ↦ elim (first_hit fs before ds stood s.1) [
      | inl hit ↦ inl (later f d fs ds hit)
      | inr others ↦ inr (spares.0, (spares.1, others))
    ]
  ]

-- ---- a step

module _ (read : Reads) (plan : Plan) (leaf : PlannedLeaf) (value : List (List ℕ)) (files : State) where
  length_fates : (n : ℕ) (fs : State) → length (fates_from read plan leaf value files n fs) ≡ length fs
  unfolding fates_from
  length_fates n [] = refl
  length_fates n (f ∷ fs) = ap suc (length_fates (n + 1) fs)

  fates_at : (k n : ℕ) (fs : State) → n < length fs
      → get_or (fates_from read plan leaf value files k fs) n Stays ≡ fate_at read plan leaf value files (k + n)
  unfolding fates_from
  fates_at k n [] lt = absurd (omega arith)
  fates_at k zero (f ∷ fs) lt = ap (fate_at read plan leaf value files) (omega arith)
  fates_at k (suc n) (f ∷ fs) lt =
      fates_at (k + 1) n fs (omega arith) ∙ ap (fate_at read plan leaf value files) (omega arith)

  step_settled : AreSettled files files (fates_from read plan leaf value files 0 files)
      (step_fates read plan leaf value files)
  unfolding step_fates
  step_settled = are_settled files [] files (fates_from read plan leaf value files 0 files) (length_fates 0 files)

  -- the fate of a file is dropped, or it is what its leaf makes of it, to a free path
  fate_is : (n : ℕ) → n < length files
      → IsSettled files (file_at files n) (fate_at read plan leaf value files n) (fate_of read plan leaf value files n)
  unfolding file_at fate_of
  fate_is n lt =
      subst (λ b. IsSettled files (get_or files n no_file) b (get_or (step_fates read plan leaf value files) n Stays))
      (fates_at 0 n files lt ∙ ap (fate_at read plan leaf value files) (omega arith))
      (settled_at files files (fates_from read plan leaf value files 0 files) (step_fates read plan leaf value files) n
      step_settled lt)

  module _ (path : List ℕ) (n : ℕ) (lt : n < length files) where
    abbrev f : KeptFile
    f = file_at files n

    removed : f.path ≡ path → fate_of read plan leaf value files n ≡ Goes → fate_at read plan leaf value files n ≡ Goes
        → IsRemoved read plan leaf value files path
    unfolding fate_at
    removed there goes is =
        let by = removes_by read f (holds plan leaf files n) (edits leaf.recipe files n value) is in
        record { number = n; stands = lt; there = there; runs = by.0; gives = by.1; goes = goes }

    rewritten : (g : KeptFile) → (f.path ≡ path) ⊎ ((g.path ≡ path) × (has_path files path ≡ false))
        → fate_of read plan leaf value files n ≡ Becomes g → fate_at read plan leaf value files n ≡ Becomes g
        → IsRewritten read plan leaf value files path
    unfolding fate_at
    rewritten g there becomes is =
        let by = rewrites_by read f (holds plan leaf files n) (edits leaf.recipe files n value) g is in
        let es = by.1.0 in
        let to = by.1.1.0 in
        let gives : edits leaf.recipe files n value ≡ edit.Edit es to = by.1.1.1.0 in
        record {
          number = n;
          es = es;
          to = to;
          other = g;
          stands = lt;
          there = there;
          runs = by.0;
          gives = gives;
          becomes = becomes;
          ranges =
              in_ranges f g es (edits_fit leaf.recipe files n value es to gives) by.1.1.1.1;
        }

    there_or_free : (g : KeptFile) → (f.path ≡ path) ⊎ ((bytes_eq g.path f.path ≡ false) × (g.path ≡ path))
        → IsFree files f (Becomes g) → (f.path ≡ path) ⊎ ((g.path ≡ path) × (has_path files path ≡ false))
    there_or_free g (inl here) free = inl here
    there_or_free g (inr (away, at)) free = inr (at, ap (has_path files) (sym at) ∙ free away)

    touched_by : (d : Fate) → fate_of read plan leaf value files n ≡ d → Hits path f d
        → IsSettled files f (fate_at read plan leaf value files n) d → StepTouches read plan leaf value files path
    touched_by Stays is h s = absurd h
    touched_by (Lost r) is h s = absurd h
    touched_by Taken is h s = absurd h
    touched_by Goes is h (inl e) = absurd (cc)
    touched_by Goes is h (inr (e, free)) = inl (removed h is (sym e))
    touched_by (Becomes g) is h (inl e) = absurd (cc)
    touched_by (Becomes g) is h (inr (e, free)) = inr (rewritten g (there_or_free g h free) is (sym e))

  hit_touches : (path : List ℕ) → Hit path files (step_fates read plan leaf value files)
      → StepTouches read plan leaf value files path
  unfolding file_at fate_of
  hit_touches path (n, (lt, h)) =
      touched_by path n lt (get_or (step_fates read plan leaf value files) n Stays) refl h (fate_is n lt)

module _ (path : List ℕ) where
  pub step_touches : (read : Reads) (plan : Plan) (leaf : PlannedLeaf) (value : List (List ℕ)) (files : State)
      → (at_path path (stepped read plan leaf value files) ≡ at_path path files)
      ⊎ StepTouches read plan leaf value files path
  unfolding stepped
  step_touches read plan leaf value files =
      let ds = step_fates read plan leaf value files in
      elim (first_hit path files (fates_from read plan leaf value files 0 files) ds files
      (step_settled read plan leaf value files)) [
        | inl hit ↦ inr (hit_touches read plan leaf value files path hit)
        | inr spares ↦ inl (next_same path files ds spares)
      ]

  -- ---- generation

  -- one of these files stands at the path
  abbrev Makes : List SourceFile → Type 0
  Makes ss = (s : SourceFile) × (Contains ss s × (s.path ≡ path))

  makes_later : (s : SourceFile) (ss : List SourceFile) → Makes ss → Makes (s ∷ ss)
  makes_later s ss (m, ((n, lt, is), at)) = (m, ((suc n, omega (arith, lt), is), at))

  with_file_elsewhere : (read : Reads) (s : SourceFile) (stage : Stage) → bytes_eq s.path path ≡ false
      → at_path path (with_file read s stage).state ≡ at_path path stage.state
  unfolding file_of
  with_file_elsewhere read s stage other =
      elim (has_path stage.state s.path) as
      (λ b. at_path path (if b then stage
      else record {
        state = put_file (file_of read s) stage.state;
        events =
            stage.events ++ refusal_of (file_of read s);
      }).state ≡ at_path path stage.state) [
        | true ↦ refl
        | false ↦ put_elsewhere path (file_of read s) stage.state other
      ]

  with_files_make : (read : Reads) (ss : List SourceFile) (stage : Stage)
      → (at_path path (with_files read ss stage).state ≡ at_path path stage.state) ⊎ Makes ss
  with_files_make read [] stage = inl refl
  with_files_make read (s ∷ ss) stage = elim (cases_Bool (bytes_eq s.path path)) [
    | inl at ↦ inr (s, ((zero, omega arith, refl), (bytes_eq-Decides s.path path).0 at))
    | inr other ↦ elim (with_files_make read ss (with_file read s stage)) [
      | inl same ↦ inl (same ∙ with_file_elsewhere read s stage other)
      | inr makes ↦ inr (makes_later s ss makes)
    ]
  ]

  generation_makes : (read : Reads) (leaf : PlannedLeaf) (value : List (List ℕ)) (files : State)
      → (at_path path (generation read leaf value files).state ≡ at_path path files) ⊎ IsMade leaf value files path
  unfolding generation
  generation_makes read leaf value files = elim (cases_Bool (has_path files path)) [
    | inl there ↦ inl (generation_same path read leaf value files there)
    | inr none ↦ elim (with_files_make read (generated leaf.recipe value) (record { state = files; events = [] })) [
      | inl same ↦ inl same
      | inr (s, (made, at)) ↦ inr (record { file = s; made = made; there = at; free = none })
    ]
  ]

  -- ---- one leaf after another

  onward : (T U : Type 0) (a b c : State) → (at_path path b ≡ at_path path a) ⊎ T
      → (at_path path c ≡ at_path path b) ⊎ U → (at_path path c ≡ at_path path a) ⊎ (T ⊎ U)
  onward T U a b c (inr t) later = inr (inl t)
  onward T U a b c (inl e) (inr u) = inr (inr u)
  onward T U a b c (inl e) (inl g) = inl (g ∙ e)

  generations_make : (read : Reads) (first : State) (leaves : List PlannedLeaf) (files : State)
      → (at_path path (last_of files (each_leaf (generation read) first leaves files)) ≡ at_path path files)
      ⊎ OneMakes read first leaves files path
  unfolding each_leaf OneMakes
  generations_make read first [] files = inl refl
  generations_make read first (leaf ∷ leaves) files =
      let value = scanned leaf.recipe first in
      let after : State = (generation read leaf value files).state in
      onward (IsMade leaf value files path) (OneMakes read first leaves after path) files after
      (last_of after (each_leaf (generation read) first leaves after)) (generation_makes read leaf value files)
      (generations_make read first leaves after)

  steps_touch : (read : Reads) (plan : Plan) (first : State) (leaves : List PlannedLeaf) (files : State)
      → (at_path path (last_of files (each_leaf (edit_step read plan) first leaves files)) ≡ at_path path files)
      ⊎ StepsTouch read plan first leaves files path
  unfolding each_leaf edit_step StepsTouch
  steps_touch read plan first [] files = inl refl
  steps_touch read plan first (leaf ∷ leaves) files =
      let value = scanned leaf.recipe first in
      let after : State = stepped read plan leaf value files in
      onward (StepTouches read plan leaf value files path) (StepsTouch read plan first leaves after path) files after
      (last_of after (each_leaf (edit_step read plan) first leaves after)) (step_touches read plan leaf value files)
      (steps_touch read plan first leaves after)

  -- ---- cycles and runs

  last_append : (files : State) (xs ys : List Stage) → last_of files (xs ++ ys) ≡ last_of (last_of files xs) ys
  last_append files [] ys = refl
  last_append files (x ∷ xs) ys = last_append x.state xs ys

  cycle_touches : (read : Reads) (plan : Plan) (files : State)
      → (at_path path (last_of files (cycle read plan files)) ≡ at_path path files) ⊎ CycleTouches read plan files path
  unfolding cycle
  cycle_touches read plan files =
      let made = each_leaf (generation read) files plan.leaves files in
      let mid : State = last_of files made in
      let steps = each_leaf (edit_step read plan) files plan.leaves mid in
      subst (λ z. (at_path path z ≡ at_path path files) ⊎ CycleTouches read plan files path)
      (sym (last_append files made steps))
      (onward (OneMakes read files plan.leaves files path) (StepsTouch read plan files plan.leaves mid path) files mid
      (last_of mid steps) (generations_make read files plan.leaves files) (steps_touch read plan files plan.leaves mid))

  abbrev more : List Stage → Run → Bool → Run
  more stages others goes =
      if goes then ends_with stages others else record { stages = stages; cycles = 1; still_changing = false }

  behind_cycle : (T U : Type 0) (files : State) (stages : List Stage) (others : Run) (goes : Bool)
      → (at_path path (last_of files stages) ≡ at_path path files) ⊎ T
      → (at_path path (last_of (last_of files stages) others.stages) ≡ at_path path (last_of files stages)) ⊎ U
      → (at_path path (last_of files (more stages others goes).stages) ≡ at_path path files)
      ⊎ (T ⊎ ((goes ≡ true) × U))
  behind_cycle T U files stages others true a b =
      subst (λ z. (at_path path z ≡ at_path path files) ⊎ (T ⊎ ((true ≡ true) × U)))
      (sym (last_append files stages others.stages))
      (onward T ((true ≡ true) × U) files (last_of files stages) (last_of (last_of files stages) others.stages) a
      (elim b [ inl e ↦ inl e | inr u ↦ inr (refl, u) ]))
  behind_cycle T U files stages others false (inl e) b = inl e
  behind_cycle T U files stages others false (inr t) b = inr (inl t)

  run_last : (read : Reads) (plan : Plan) (cycles : ℕ) (files : State)
      → (at_path path (last_of files (run read plan cycles files).stages) ≡ at_path path files)
      ⊎ IsTouched read plan cycles files path
  unfolding run IsTouched
  run_last read plan zero files = inl refl
  run_last read plan (suc n) files =
      let stages = cycle read plan files in
      let last : State = last_of files stages in
      behind_cycle (CycleTouches read plan files path) (IsTouched read plan n last path) files stages
      (run read plan n last) (plan.again && not (same_files files last)) (cycle_touches read plan files)
      (run_last read plan n last)

  pub run_touches : (read : Reads) (plan : Plan) (cycles : ℕ) (files last : State) (events : List Event)
      → reached files [] (run read plan cycles files).stages ≡ end last events
      → (at_path path last ≡ at_path path files) ⊎ IsTouched read plan cycles files path
  run_touches read plan cycles files last events comes =
      subst (λ z. (at_path path z ≡ at_path path files) ⊎ IsTouched read plan cycles files path)
      (lasts files last [] events (run read plan cycles files).stages comes) (run_last read plan cycles files)
