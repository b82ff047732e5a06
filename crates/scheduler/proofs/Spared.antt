-- A path that a step spares.
use Rattle.std.proofs.Common.{◌≡◌, ℕ, ◌+◌, ◌<◌, Bool, ◌||◌, ◌&&◌, true, false, List, [], ◌∷◌, ◌++◌, length, drop}
use Rattle.std.proofs.Common.{get_or, refl, sym, ap, subst, ◌∙◌, inl, inr, arith}
use Rattle.std.specs.Prelude.{if◌then◌else◌}
use Rattle.std.proofs.lemmas.Bool.{both_ways, cases_Bool}
use Rattle.std.proofs.lemmas.List.{length-drop}
use Rattle.std.proofs.lemmas.Slice.Eq.{bytes_eq-Decides}
use Rattle.std.specs.Str.{bytes_eq}
use Rattle.rw_host.specs.declared.file.FileEdit.{FileEdit}
use Rattle.rw_host.specs.declared.file.FileEdit.TheVariants as edit
use Rattle.kept_files.specs.Readings.{Reads}
use Rattle.kept_files.specs.States.{State, IsBelow, file_at, no_file, has_path, put_file}
use Rattle.kept_files.specs.declared.file.KeptFile.{KeptFile}
use Rattle.recipe_yaml.specs.declared.plans.Plan.{Plan}
use Rattle.recipe_yaml.specs.declared.plans.PlannedLeaf.{PlannedLeaf}
use Rattle.scheduler.specs.declared.fate.Fate.{Fate}
use Rattle.scheduler.specs.declared.fate.Fate.TheVariants.{Stays, Goes, Lost, Taken, Becomes}
use Rattle.scheduler.specs.Edits.{edits}
use Rattle.scheduler.specs.Holds.{holds}
use Rattle.scheduler.specs.Fates.{fate, fate_at, fates_from, settled, is_among}
use Rattle.scheduler.specs.Steps.{beside, left_at, moved_from, left, moved, put_files, next, step_fates, stepped}
use Rattle.scheduler.specs.Untouched.{at_path, alters, is_altered, StepSpares}
use Rattle.scheduler.proofs.After.{left_below}
use Rattle.scheduler.proofs.Decided.{cut}
use Rattle.scheduler.proofs.Standing.{elsewhere, behind, put_elsewhere, other_path, AreInOrder, order_put, below_same}

-- ---- fates that spare a path

-- a file with this fate is left as it is
abbrev pub IsStill : Fate → Type 0
IsStill Goes = ⊥
IsStill (Becomes g) = ⊥
IsStill d = Unit {0}

-- a file at the path is
abbrev pub StaysAt : List ℕ → KeptFile → Fate → Type 0
StaysAt path f d = bytes_eq f.path path ≡ true → IsStill d

-- none goes there from elsewhere
abbrev pub GoesNotTo : List ℕ → KeptFile → Fate → Type 0
GoesNotTo path f (Becomes g) = bytes_eq g.path f.path ≡ false → bytes_eq g.path path ≡ false
GoesNotTo path f d = Unit {0}

abbrev AreStaying : List ℕ → State → List Fate → Type 0
AreStaying path [] ds = Unit {0}
AreStaying path (f ∷ fs) [] = ⊥
AreStaying path (f ∷ fs) (d ∷ ds) = StaysAt path f d × AreStaying path fs ds

abbrev pub AreSparing : List ℕ → State → List Fate → Type 0
AreSparing path [] ds = Unit {0}
AreSparing path (f ∷ fs) [] = ⊥
AreSparing path (f ∷ fs) (d ∷ ds) = StaysAt path f d × (GoesNotTo path f d × AreSparing path fs ds)

module _ (path : List ℕ) where
  not_here : (f : KeptFile) (d : Fate) → StaysAt path f d → (IsStill d → ⊥) → bytes_eq f.path path ≡ false
  not_here f d s goes = elim (cases_Bool (bytes_eq f.path path)) [ inl e ↦ absurd (goes (s e)) | inr e ↦ e ]

  -- ---- what is left at its path, and what goes elsewhere

  becomes_left : (f g : KeptFile) (rest fs : State) → bytes_eq f.path path ≡ false
      → at_path path rest ≡ at_path path fs → at_path path (left_at f (Becomes g) ++ rest) ≡ at_path path (f ∷ fs)
  becomes_left f g rest fs other m =
      elim (bytes_eq g.path f.path) as
      (λ b. bytes_eq g.path f.path ≡ b → at_path path ((if b then g ∷ [] else []) ++ rest) ≡ at_path path (f ∷ fs)) [
        | true ↦ λ own. elsewhere path g rest (ap (λ p. bytes_eq p path) ((bytes_eq-Decides g.path f.path).0 own) ∙ other)
            ∙ (m ∙ sym (elsewhere path f fs other))
        | false ↦ λ away. m ∙ sym (elsewhere path f fs other)
      ] refl

  left_at_same : (f : KeptFile) (d : Fate) (rest fs : State) → StaysAt path f d → at_path path rest ≡ at_path path fs
      → at_path path (left_at f d ++ rest) ≡ at_path path (f ∷ fs)
  left_at_same f Stays rest fs s m = behind path f rest fs m
  left_at_same f Goes rest fs s m = m ∙ sym (elsewhere path f fs (not_here f Goes s (λ still. still)))
  left_at_same f (Lost r) rest fs s m = behind path f rest fs m
  left_at_same f Taken rest fs s m = behind path f rest fs m
  left_at_same f (Becomes g) rest fs s m = becomes_left f g rest fs (not_here f (Becomes g) s (λ still. still)) m

  left_same : (fs : State) (ds : List Fate) → AreSparing path fs ds → at_path path (left fs ds) ≡ at_path path fs
  unfolding beside
  left_same [] ds s = refl
  left_same (f ∷ fs) [] s = absurd s
  left_same (f ∷ fs) (d ∷ ds) s = left_at_same f d (left fs ds) fs s.0 (left_same fs ds s.1.1)

  abbrev AreElsewhere : State → Type 0
  AreElsewhere [] = Unit {0}
  AreElsewhere (g ∷ gs) = (bytes_eq g.path path ≡ false) × AreElsewhere gs

  moved_at : (f : KeptFile) (d : Fate) (rest : State) → GoesNotTo path f d → AreElsewhere rest
      → AreElsewhere (moved_from f d ++ rest)
  moved_at f Stays rest out k = k
  moved_at f Goes rest out k = k
  moved_at f (Lost r) rest out k = k
  moved_at f Taken rest out k = k
  moved_at f (Becomes g) rest out k =
      elim (bytes_eq g.path f.path) as
      (λ b. bytes_eq g.path f.path ≡ b → AreElsewhere ((if b then [] else g ∷ []) ++ rest)) [
        | true ↦ λ own. k
        | false ↦ λ away. (out away, k)
      ] refl

  moved_elsewhere : (fs : State) (ds : List Fate) → AreSparing path fs ds → AreElsewhere (moved fs ds)
  unfolding beside
  moved_elsewhere [] ds s = tt
  moved_elsewhere (f ∷ fs) [] s = tt
  moved_elsewhere (f ∷ fs) (d ∷ ds) s = moved_at f d (moved fs ds) s.1.0 (moved_elsewhere fs ds s.1.1)

  puts_elsewhere : (gs fs : State) → AreElsewhere gs → at_path path (put_files gs fs) ≡ at_path path fs
  puts_elsewhere [] fs a = refl
  puts_elsewhere (g ∷ gs) fs a = puts_elsewhere gs (put_file g fs) a.1 ∙ put_elsewhere path g fs a.0

  pub next_same : (fs : State) (ds : List Fate) → AreSparing path fs ds → at_path path (next fs ds) ≡ at_path path fs
  unfolding next
  next_same fs ds s = puts_elsewhere (moved fs ds) (left fs ds) (moved_elsewhere fs ds s) ∙ left_same fs ds s

  -- ---- what is settled

  first_false : (a b : Bool) → (a || b) ≡ false → a ≡ false
  first_false true b e = absurd (cc)
  first_false false b e = refl

  module _ (stood : State) (there : has_path stood path ≡ true) where
    settled_becomes : (taken : List (List ℕ)) (f g : KeptFile) (fs : State) (ds : List Fate)
        → StaysAt path f (Becomes g)
        → ((more : List (List ℕ)) → AreSparing path fs (settled stood more fs ds))
        → AreSparing path (f ∷ fs) (settled stood taken (f ∷ fs) (Becomes g ∷ ds))
    unfolding settled
    settled_becomes taken f g fs ds s all =
        elim (bytes_eq g.path f.path) as
        (λ b. bytes_eq g.path f.path ≡ b
        → AreSparing path (f ∷ fs) (if b then Becomes g ∷ settled stood taken fs ds
        else if has_path stood g.path || is_among g.path taken then Taken ∷ settled stood taken fs ds
        else Becomes g ∷ settled stood (taken ++ g.path ∷ []) fs ds)) [
          | true ↦ λ own. (s, ((λ away. absurd (both_ways (bytes_eq g.path f.path) away own)), all taken))
          | false ↦ λ away. elim (has_path stood g.path || is_among g.path taken) as
              (λ b. (has_path stood g.path || is_among g.path taken) ≡ b
              → AreSparing path (f ∷ fs) (if b then Taken ∷ settled stood taken fs ds else Becomes g ∷ settled stood
              (taken ++ g.path ∷ []) fs ds)) [
                | true ↦ λ e. ((λ here. tt), (tt, all taken))
                | false ↦ λ e. (
                  s,
                  (
                    (λ out. other_path path g.path stood there
                        (first_false (has_path stood g.path) (is_among g.path taken) e)),
                    all (taken ++ g.path ∷ []),
                  ),
                )
              ] refl
        ] refl

    settled_sparing : (taken : List (List ℕ)) (fs : State) (ds : List Fate) → AreStaying path fs ds
        → AreSparing path fs (settled stood taken fs ds)
    unfolding settled
    settled_sparing taken [] ds s = tt
    settled_sparing taken (f ∷ fs) [] s = absurd s
    settled_sparing taken (f ∷ fs) (Stays ∷ ds) s = (s.0, (tt, settled_sparing taken fs ds s.1))
    settled_sparing taken (f ∷ fs) (Goes ∷ ds) s = (s.0, (tt, settled_sparing taken fs ds s.1))
    settled_sparing taken (f ∷ fs) (Lost r ∷ ds) s = (s.0, (tt, settled_sparing taken fs ds s.1))
    settled_sparing taken (f ∷ fs) (Taken ∷ ds) s = (s.0, (tt, settled_sparing taken fs ds s.1))
    settled_sparing taken (f ∷ fs) (Becomes g ∷ ds) s =
        settled_becomes taken f g fs ds s.0 (λ more. settled_sparing more fs ds s.1)

-- ---- what isn't altered stays

not_altered : (read : Reads) (f : KeptFile) (x : FileEdit) → alters x ≡ false → fate read f x ≡ Stays
unfolding fate
not_altered read f edit.Keep e = refl
not_altered read f (edit.Edit es path) e = absurd (cc)
not_altered read f edit.Remove e = absurd (cc)
not_altered read f edit.Found e = refl

stays_by : (read : Reads) (f : KeptFile) (b : Bool) (x : FileEdit) → (b && alters x) ≡ false
    → (if b then fate read f x else Stays) ≡ Stays
stays_by read f true x e = not_altered read f x e
stays_by read f false x e = refl

-- the first of the files from a number on, and those behind it
pub first_is : (files : State) (n : ℕ) (f : KeptFile) (fs : State) → drop n files ≡ f ∷ fs
    → (n < length files) × ((file_at files n ≡ f) × (drop (n + 1) files ≡ fs))
unfolding file_at
first_is files n f fs e =
    let count : length (drop n files) ≡ length fs + 1 = ap length e ∙ (omega arith) in
    let lt : n < length files = omega (arith, count, length-drop n files) in
    let two : get_or files n no_file ∷ drop (n + 1) files ≡ f ∷ fs = sym (cut files n no_file lt) ∙ e in
    (lt, (cc, cc))

module _ (read : Reads) (plan : Plan) (leaf : PlannedLeaf) (value : List (List ℕ)) (files : State) where
  fate_stays : (n : ℕ) → is_altered plan leaf value files n ≡ false → fate_at read plan leaf value files n ≡ Stays
  unfolding is_altered fate_at
  fate_stays n e = stays_by read (file_at files n) (holds plan leaf files n) (edits leaf.recipe files n value) e

  module _ (path : List ℕ) (spares : StepSpares plan leaf value files path) where
    first_stays : (n : ℕ) (f : KeptFile) → n < length files → file_at files n ≡ f
        → StaysAt path f (fate_at read plan leaf value files n)
    first_stays n f lt is here = subst IsStill (sym (fate_stays n
        (spares n lt (ap (λ (g : KeptFile). g.path) is ∙ (bytes_eq-Decides f.path path).0 here)))) tt

    fates_staying : (n : ℕ) (fs : State) → drop n files ≡ fs
        → AreStaying path fs (fates_from read plan leaf value files n fs)
    unfolding fates_from
    fates_staying n [] e = tt
    fates_staying n (f ∷ fs) e =
        let at = first_is files n f fs e in
        (first_stays n f at.0 at.1.0, fates_staying (n + 1) fs at.1.1)

    -- what stands at a path that the step spares
    pub step_same : has_path files path ≡ true → at_path path (stepped read plan leaf value files) ≡ at_path path files
    unfolding stepped step_fates
    step_same there =
        next_same path files (settled files [] files (fates_from read plan leaf value files 0 files))
        (settled_sparing path files there [] files (fates_from read plan leaf value files 0 files)
        (fates_staying 0 files refl))

-- ---- a step keeps the order of paths

left_at_order : (f : KeptFile) (d : Fate) (rest : State) → IsBelow f.path rest → AreInOrder rest
    → AreInOrder (left_at f d ++ rest)
left_at_order f Stays rest b k = (b, k)
left_at_order f Goes rest b k = k
left_at_order f (Lost r) rest b k = (b, k)
left_at_order f Taken rest b k = (b, k)
left_at_order f (Becomes g) rest b k =
    elim (bytes_eq g.path f.path) as
    (λ t. bytes_eq g.path f.path ≡ t → AreInOrder ((if t then g ∷ [] else []) ++ rest)) [
      | true ↦ λ own. (below_same g.path f.path rest ((bytes_eq-Decides g.path f.path).0 own) b, k)
      | false ↦ λ away. k
    ] refl

left_order : (fs : State) (ds : List Fate) → AreInOrder fs → AreInOrder (left fs ds)
unfolding beside
left_order [] ds k = tt
left_order (f ∷ fs) [] k = tt
left_order (f ∷ fs) (d ∷ ds) k = left_at_order f d (left fs ds) (left_below f.path fs ds k.0) (left_order fs ds k.1)

puts_order : (gs fs : State) → AreInOrder fs → AreInOrder (put_files gs fs)
puts_order [] fs k = k
puts_order (g ∷ gs) fs k = puts_order gs (put_file g fs) (order_put g fs k)

pub step_order : (read : Reads) (plan : Plan) (leaf : PlannedLeaf) (value : List (List ℕ)) (files : State)
    → AreInOrder files → AreInOrder (stepped read plan leaf value files)
unfolding stepped next
step_order read plan leaf value files k =
    let ds = step_fates read plan leaf value files in
    puts_order (moved files ds) (left files ds) (left_order files ds k)
