-- Files as they read, and files with changes.
use Rattle.std.proofs.Common.{◌≡◌, ℕ, zero, suc, ◌+◌, ◌<◌, Bool, true, false, not, cond, List, [], ◌∷◌, ◌++◌, length, map, filter, Option, Some, None, refl, sym, ap, subst, ◌∙◌, arith, append_assoc, append-nil, ◌≤◌, drop, get_or, drop-cons, add-one, Vec, Global}
use Rattle.std.proofs.lemmas.List.{get_or_default, drop_all}
use Rattle.std.specs.Prelude.{slice_index_or}
use Rattle.std.specs.List.{AllByRecursion}
use Rattle.std.specs.List.Sorted.{IsStrictlySortedBy}
use Rattle.std.specs.Str.{bytes_eq}
use Rattle.std.specs.Ordering.{nat_cmp}
use Rattle.std.specs.Cmp.Lexicographic.{slice_cmp}
use Rattle.std.specs.declared.cmp.Ordering.TheVariants.{Less}
use Rattle.kept_files.specs.declared.reading.Reading.{Reading}
use Rattle.kept_files.specs.declared.reading.Reading.TheVariants as reading
use Rattle.rw_host.specs.declared.file.SourceFile.{SourceFile}
use Rattle.rw_host.specs.Files.{IsInOrder}
use Rattle.kept_files.specs.Readings.{Reads, AreReadings, IsReading, EndsWith, AreBytesOrNone}
use Rattle.kept_files.specs.States.{State, IsKept, EndsAt, IsBelow, AreKept, file_at, no_file, put_file, tree_in}
use Rattle.kept_files.specs.declared.file.KeptFile.{KeptFile}
use Rattle.j_repair.specs.declared.change.Change.{Change}
use Rattle.j_repair.specs.declared.change.Change.TheVariants as change
use Rattle.j_repair.specs.Changes.{paths_of, file_of, without, changed, repaired}

-- ---- the file of a number

kept_in : (files : State) (i : ℕ) (d : KeptFile) → AreKept files → i < length files → IsKept (slice_index_or files i d)
unfolding AreKept
kept_in [] i d k lt = absurd (omega arith)
kept_in (f ∷ fs) zero d k lt = k.0
kept_in (f ∷ fs) (suc i) d k lt = kept_in fs i d k.1.1 (omega arith)

pub kept_at : (files given : State) (i : ℕ) (f g : KeptFile) → AreKept files → i < length files → given ≡ files → slice_index_or given i f ≡ f → g ≡ f → IsKept g
kept_at files given i f g k lt e at is =
    subst IsKept (sym (is ∙ sym at)) (kept_in given i f (subst AreKept (sym e) k) (omega (arith, ap length e)))

pub is_at : (files : State) (i : ℕ) (f : KeptFile) → i < length files → slice_index_or files i f ≡ f → f ≡ file_at files i
unfolding file_at
is_at files i f lt e = sym e ∙ get_or_default files i f no_file lt

pub ruleset at_places = (kept_at, is_at)

-- ---- one file as it reads

abbrev pub file : List ℕ → Option (List ℕ) → Reading → KeptFile
file path bytes r = record { path = path; bytes = bytes; reading = r }

pub file_is : (read : Reads) (path bytes p b : List ℕ) (r : Reading) → p ≡ path → b ≡ bytes → r ≡ read p (Some b) → file path (Some bytes) r ≡ file_of read (record { path = path; bytes = Some bytes })
unfolding file_of
file_is read path bytes p b r e h is = ap (file path (Some bytes)) (is ∙ (ap (λ x. read x (Some b)) e ∙ ap (λ x. read path (Some x)) h))

ends_at : (bytes : List ℕ) (r : Reading) → EndsWith bytes r → EndsAt (tree_in r) (Some bytes)
ends_at bytes (reading.Java t) e = e
ends_at bytes (reading.Yaml t) e = e
ends_at bytes (reading.Properties t) e = e
ends_at bytes reading.Unread e = tt
ends_at bytes (reading.Refused r) e = tt

pub file_kept : (path bytes p b : List ℕ) (r : Reading) → p ≡ path → b ≡ bytes → IsReading p (Some b) r → EndsWith b r → IsKept (file path (Some bytes) r)
file_kept path bytes p b r e h is ends = record {
  reading = subst (λ x. IsReading path (Some x) r) h (subst (λ x. IsReading x (Some b) r) e is);
  whole = ends_at bytes r (subst (λ x. EndsWith x r) h ends);
}

pub file_unread : (read : Reads) (s : SourceFile) → AreReadings read → s.bytes ≡ None → file s.path None reading.Unread ≡ file_of read s
unfolding AreReadings IsReading file_of
file_unread read s are e =
    ap (file s.path None) (are s.path None reading.Unread tt refl) ∙ ap (λ b. file s.path b (read s.path b)) (sym e)

pub unread_kept : (path : List ℕ) → IsKept (file path None reading.Unread)
unfolding IsReading
unread_kept path = record { reading = refl; whole = tt }

pub with_bytes : (read : Reads) (s : SourceFile) (bytes : List ℕ) (f : KeptFile) → s.bytes ≡ Some bytes → f ≡ file_of read (record { path = s.path; bytes = Some bytes }) → f ≡ file_of read s
unfolding file_of
with_bytes read s bytes f e is = is ∙ ap (λ b. file s.path b (read s.path b)) (sym e)

pub ruleset files = (file_is, file_kept, file_unread, unread_kept, with_bytes)

-- ---- files as they read, one after another

abbrev pub kept_paths : State → List (List ℕ)
kept_paths files = map (λ f. f.path) files

abbrev pub AreAllKept : State → Type 0
AreAllKept [] = Unit {0}
AreAllKept (f ∷ fs) = IsKept f × AreAllKept fs

-- one file more, which is pushed behind those before
module _ (xs ss : List SourceFile) (s : SourceFile) (done new : State) (f g : KeptFile) (is : xs ≡ s ∷ ss) (pushed : new ≡ done ++ g ∷ []) (same : g ≡ f) where
  pub read_more : (read : Reads) (all : State) → f ≡ file_of read s → done ++ map (file_of read) xs ≡ all → new ++ map (file_of read) ss ≡ all
  read_more read all h e =
      ap (λ gs. gs ++ map (file_of read) ss) pushed
      ∙ (append_assoc done (g ∷ []) (map (file_of read) ss)
      ∙ (ap (λ x. done ++ x ∷ map (file_of read) ss) (same ∙ h)
      ∙ (sym (ap (λ ys. done ++ map (file_of read) ys) is) ∙ e)))

  pub paths_more : (all : List (List ℕ)) → f.path ≡ s.path → kept_paths done ++ paths_of xs ≡ all → kept_paths new ++ paths_of ss ≡ all
  paths_more all h e =
      ap (λ gs. kept_paths gs ++ paths_of ss) pushed
      ∙ (ap (λ ps. ps ++ paths_of ss) (paths_of_more done)
      ∙ (append_assoc (kept_paths done) (g.path ∷ []) (paths_of ss)
      ∙ (ap (λ p. kept_paths done ++ p ∷ paths_of ss) (ap (λ (x : KeptFile). x.path) same ∙ h)
      ∙ (sym (ap (λ ys. kept_paths done ++ paths_of ys) is) ∙ e))))
    where
      paths_of_more : (gs : State) → kept_paths (gs ++ g ∷ []) ≡ kept_paths gs ++ g.path ∷ []
      paths_of_more [] = refl
      paths_of_more (x ∷ gs) = ap (λ ps. x.path ∷ ps) (paths_of_more gs)

  pub kept_more : AreAllKept done → IsKept f → AreAllKept new
  kept_more all k = subst AreAllKept (sym pushed) (more done all)
    where
      more : (gs : State) → AreAllKept gs → AreAllKept (gs ++ g ∷ [])
      more [] all = (subst IsKept (sym same) k, tt)
      more (x ∷ gs) all = (all.0, more gs all.1)

pub none_left : {A : Type 0} (xs : List A) (n : ℕ) → n ≡ 0 → n ≡ length xs → xs ≡ []
none_left [] n z e = refl
none_left (x ∷ xs) n z e = absurd (omega (arith, z, e))

pub kept_none : AreAllKept []
kept_none = tt

pub read_end : (read : Reads) (xs : List SourceFile) (done all : State) → xs ≡ [] → done ++ map (file_of read) xs ≡ all → done ≡ all
read_end read xs done all is e = sym (ap (λ ys. done ++ map (file_of read) ys) is ∙ append-nil done) ∙ e

below_all : (p : List ℕ) (fs : State) → AllByRecursion (λ q. slice_cmp nat_cmp p q ≡ Less) (kept_paths fs) → IsBelow p fs
below_all p [] all = tt
below_all p (f ∷ fs) all = (all.0, below_all p fs all.1)

all_kept : (fs : State) → IsInOrder (kept_paths fs) → AreAllKept fs → AreKept fs
unfolding AreKept IsStrictlySortedBy
all_kept [] up all = tt
all_kept (f ∷ fs) up all = (all.0, (below_all f.path fs up.0, all_kept fs up.1 all.1))

pub kept_end : (xs given : List SourceFile) (done : State) → xs ≡ [] → IsInOrder (paths_of given) → kept_paths done ++ paths_of xs ≡ paths_of given → AreAllKept done → AreKept done
kept_end xs given done is up e all =
    let paths : kept_paths done ≡ paths_of given = sym (ap (λ ys. kept_paths done ++ paths_of ys) is ∙ append-nil (kept_paths done)) ∙ e in
    all_kept done (subst IsInOrder (sym paths) up) all

pub ruleset all_files = (kept_none, read_end, kept_end)

-- ---- files without one

without_cut : (path : List ℕ) (f : KeptFile) (fs : State) → without path (f ∷ fs) ≡ without path (f ∷ []) ++ without path fs
unfolding without
without_cut path f fs = elim (bytes_eq f.path path) as (λ b. cond (not b) (f ∷ without path fs) (without path fs) ≡ cond (not b) (f ∷ []) [] ++ without path fs) [
  | true ↦ refl
  | false ↦ refl
]

pub gone : (path : List ℕ) (done : State) (f : KeptFile) → bytes_eq f.path path ≡ true → done ≡ done ++ without path (f ∷ [])
unfolding without
gone path done f e = sym (append-nil done) ∙ ap (λ b. done ++ cond (not b) (f ∷ []) []) (sym e)

pub left : (path : List ℕ) (f g : KeptFile) → bytes_eq f.path path ≡ false → g ≡ f → g ∷ [] ≡ without path (f ∷ [])
unfolding without
left path f g e is = ap (λ h. h ∷ []) is ∙ rw e refl

pub ruleset other_by = (gone, left)

module _ (path : List ℕ) (files : State) (i : ℕ) where
  pub without_more : (d : KeptFile) (done more all : State) → i < length files → more ≡ without path (get_or files i d ∷ []) → done ++ without path (drop i files) ≡ all → (done ++ more) ++ without path (drop (i + 1) files) ≡ all
  without_more d done more all lt h e =
      append_assoc done more (without path (drop (i + 1) files))
      ∙ (ap (λ m. done ++ (m ++ without path (drop (i + 1) files))) h
      ∙ (sym (ap (λ fs. done ++ without path fs) (drop-cons files i d lt ∙ rw add-one refl)
      ∙ ap (λ fs. done ++ fs) (without_cut path (get_or files i d) (drop (i + 1) files)))
      ∙ e))

  pub without_end : (done all : State) → length files ≤ i → done ++ without path (drop i files) ≡ all → done ≡ all
  unfolding without
  without_end done all le e = sym (ap (λ fs. done ++ without path fs) (drop_all i files le) ∙ append-nil done) ∙ e

below_without : (p path : List ℕ) (fs : State) → IsBelow p fs → IsBelow p (without path fs)
unfolding without
below_without p path [] b = tt
below_without p path (f ∷ fs) b = elim (bytes_eq f.path path) as (λ t. IsBelow p (cond (not t) (f ∷ without path fs) (without path fs))) [
  | true ↦ below_without p path fs b.1
  | false ↦ (b.0, below_without p path fs b.1)
]

pub kept_without : (path : List ℕ) (fs : State) → AreKept fs → AreKept (without path fs)
unfolding without AreKept
kept_without path [] k = tt
kept_without path (f ∷ fs) k = elim (bytes_eq f.path path) as (λ t. AreKept (cond (not t) (f ∷ without path fs) (without path fs))) [
  | true ↦ kept_without path fs k.1.1
  | false ↦ (k.0, (below_without f.path path fs k.1.0, kept_without path fs k.1.1))
]

pub ruleset without_by = (without_more, without_end)

-- ---- files with changes

module _ (read : Reads) (c : Change) (files more : State) where
  pub changed_put : (path : List ℕ) (bytes : Vec ℕ Global) (text : List ℕ) (f g : KeptFile) → c ≡ change.Put path bytes → text ≡ bytes.items → f ≡ file_of read (record { path = path; bytes = Some text }) → g ≡ f → more ≡ put_file g files → more ≡ changed read c files
  unfolding changed file_of
  changed_put path bytes text f g put t is same e =
      e ∙ (ap (λ x. put_file x files) (same ∙ (is ∙ ap (λ b. file path (Some b) (read path (Some b))) t)) ∙ sym (ap (λ x. changed read x files) put))

  pub changed_remove : (path : List ℕ) (given : State) → c ≡ change.Remove path → given ≡ files → more ≡ without path given → more ≡ changed read c files
  unfolding changed
  changed_remove path given remove same e = e ∙ (ap (without path) same ∙ sym (ap (λ x. changed read x files) remove))

pub without_is_kept : (path : List ℕ) (given files more : State) → AreKept files → given ≡ files → more ≡ without path given → AreKept more
without_is_kept path given files more k same e = subst AreKept (sym (e ∙ ap (without path) same)) (kept_without path files k)

pub ruleset changed_by = (changed_put, changed_remove, without_is_kept)

module _ (read : Reads) (xs cs : List Change) (c : Change) (a b all : State) where
  pub repaired_more : xs ≡ c ∷ cs → b ≡ changed read c a → repaired read xs a ≡ all → repaired read cs b ≡ all
  unfolding repaired
  repaired_more is h e = ap (repaired read cs) h ∙ (sym (ap (λ ys. repaired read ys a) is) ∙ e)

pub repaired_end : (read : Reads) (xs : List Change) (a all : State) → xs ≡ [] → repaired read xs a ≡ all → a ≡ all
unfolding repaired
repaired_end read xs a all is e = sym (ap (λ ys. repaired read ys a) is) ∙ e

pub ruleset repaired_by = (repaired_more, repaired_end)
