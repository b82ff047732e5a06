-- The source files of a repository, found one after another.
use Rattle.std.proofs.Common.{◌≡◌, ◌⊎◌, inl, inr, ◌||◌, nat_lt, Bool, ℕ, ◌<◌, ◌≤◌, ◌+◌, ◌++◌, true, false, List, [], ◌∷◌, Option, None, Some, refl, sym, ap, subst, ◌∙◌, append_assoc, append-nil}
use Rattle.std.specs.Option.{option_map}
use Rattle.std.specs.FinMap as map
use Rattle.std.specs.List.{AllByRecursion}
use Rattle.std.specs.List.Sorted.{IsStrictlySortedBy}
use Rattle.std.proofs.lemmas.Bool.{both_ways, le-ltb, lt-ltb, or_parts}
use Rattle.std.proofs.lemmas.List.{map-append}
use Rattle.rw_host.specs.Files.{Files, IsInOrder, first_bytes}
use Rattle.rw_host.specs.declared.file.SourceFile.{SourceFile}
use Rattle.kept_files.specs.Kinds.{is_source}
use Rattle.j_repair.specs.Changes.{paths_of}
use Rattle.rewrite_cli.specs.declared.limits.Limit.{Limit}
use Rattle.rewrite_cli.specs.declared.limits.Limit.TheVariants as limit
use Rattle.rewrite_cli.specs.declared.limits.TheConstants.{MOST_PATHS, MOST_FILES, MOST_IN_ALL}
use Rattle.rewrite_cli.specs.declared.sources.TheConstants.{MOST_READ}
use Rattle.rewrite_cli.specs.declared.stop.Stop.{Stop}
use Rattle.rewrite_cli.specs.declared.stop.Stop.TheVariants as stop
use Rattle.rw_host.specs.declared.fault.StoreFault.{StoreFault}
use Rattle.rw_host.specs.declared.fault.StoreFault.TheVariants as fault
use Rattle.rewrite_cli.specs.Ends.{IsReadStop}
use Rattle.rewrite_cli.specs.Statuses.{stop_of}
use Rattle.rewrite_cli.specs.Limits.{limit_of}
use Rattle.rewrite_cli.specs.Sources.{is_counted, is_read, count_counted, bytes_read, source_at, sources_at, sources_of, with_bytes}
use Rattle.rewrite_cli.specs.Stubs.{is_stub, stub_at, stub_with, stubs_at, stubs_of}
use Rattle.rewrite_cli.specs.declared.stubs.Stub.{Stub}
use Rattle.rewrite_cli.proofs.StubPaths.{not_read, not_source}

-- ---- what is found at a path

or_other : (a b : Bool) → (a || b) ≡ true → a ≡ false → b ≡ true
or_other true b e f = absurd (both_ways true f refl)
or_other false b e f = e

or_one : (a b : Bool) → (a || b) ≡ true → b ≡ false → a ≡ true
or_one true b e f = refl
or_one false b e f = absurd (both_ways b f e)

module _ (files : Files) (path : List ℕ) where
  none_at : source_at files path ≡ [] → (old : List SourceFile) → old ≡ old ++ source_at files path
  none_at e old = sym (ap (λ s. old ++ s) e ∙ append-nil old)

  pub other_at : (old : List SourceFile) → is_counted path ≡ false → is_source path ≡ false → old ≡ old ++ source_at files path
  unfolding source_at
  other_at old c s = none_at (rw ((or_parts (is_read path) (is_stub path) c).0, s) refl) old

  pub unread_at : (old : List SourceFile) → is_counted path ≡ false → is_source path ≡ true → old ++ record { path = path; bytes = None } ∷ [] ≡ old ++ source_at files path
  unfolding source_at
  unread_at old c s = rw ((or_parts (is_read path) (is_stub path) c).0, s) refl

  absent_file : (f : Option (List ℕ)) → None ≡ option_map (first_bytes MOST_READ) f → with_bytes path f ≡ []
  absent_file None e = refl
  absent_file (Some b) e = absurd (cc)

  no_source : is_stub path ≡ true → source_at files path ≡ []
  unfolding source_at
  no_source s = rw (not_read path s, not_source path s) refl

  pub absent_at : (old : List SourceFile) → is_counted path ≡ true → None ≡ option_map (first_bytes MOST_READ) (map.get files path) → old ≡ old ++ source_at files path
  unfolding source_at
  absent_at old c e = none_at (by_test (is_read path) refl) old where
    by_test : (r : Bool) → is_read path ≡ r → source_at files path ≡ []
    by_test true r = rw r (absent_file (map.get files path) e)
    by_test false r = no_source (or_other (is_read path) (is_stub path) c r)

  pub stub_source_at : (old : List SourceFile) → is_stub path ≡ true → old ≡ old ++ source_at files path
  stub_source_at old s = none_at (no_source s) old

  there_file : (f : Option (List ℕ)) (bytes : List ℕ) → Some bytes ≡ option_map (first_bytes MOST_READ) f → record { path = path; bytes = Some bytes } ∷ [] ≡ with_bytes path f
  there_file None bytes e = absurd (cc)
  there_file (Some b) bytes e = cc

  pub there_at : (old : List SourceFile) (bytes : List ℕ) → is_counted path ≡ true → is_stub path ≡ false → Some bytes ≡ option_map (first_bytes MOST_READ) (map.get files path)
      → old ++ record { path = path; bytes = Some bytes } ∷ [] ≡ old ++ source_at files path
  unfolding source_at
  there_at old bytes c s e = rw (or_one (is_read path) (is_stub path) c s) (ap (λ t. old ++ t) (there_file (map.get files path) bytes e))

  -- ---- and the stub

  no_stub_at : stub_at files path ≡ [] → (old : List Stub) → old ≡ old ++ stub_at files path
  no_stub_at e old = sym (ap (λ s. old ++ s) e ∙ append-nil old)

  pub other_stub_at : (old : List Stub) → is_stub path ≡ false → old ≡ old ++ stub_at files path
  unfolding stub_at
  other_stub_at old s = no_stub_at (rw s refl) old

  pub uncounted_stub_at : (old : List Stub) → is_counted path ≡ false → old ≡ old ++ stub_at files path
  uncounted_stub_at old c = other_stub_at old (or_parts (is_read path) (is_stub path) c).1

  absent_stub : (f : Option (List ℕ)) → None ≡ option_map (first_bytes MOST_READ) f → stub_with path f ≡ []
  absent_stub None e = refl
  absent_stub (Some b) e = absurd (cc)

  pub absent_stub_at : (old : List Stub) → None ≡ option_map (first_bytes MOST_READ) (map.get files path) → old ≡ old ++ stub_at files path
  unfolding stub_at
  absent_stub_at old e = no_stub_at (by_test (is_stub path) refl) old where
    by_test : (s : Bool) → is_stub path ≡ s → stub_at files path ≡ []
    by_test true s = rw s (absent_stub (map.get files path) e)
    by_test false s = rw s refl

  there_stub : (f : Option (List ℕ)) (bytes : List ℕ) → Some bytes ≡ option_map (first_bytes MOST_READ) f → record { path = path; bytes = bytes } ∷ [] ≡ stub_with path f
  there_stub None bytes e = absurd (cc)
  there_stub (Some b) bytes e = cc

  pub there_stub_at : (old : List Stub) (bytes : List ℕ) → is_stub path ≡ true → Some bytes ≡ option_map (first_bytes MOST_READ) (map.get files path)
      → old ++ record { path = path; bytes = bytes } ∷ [] ≡ old ++ stub_at files path
  unfolding stub_at
  there_stub_at old bytes s e = rw s (ap (λ t. old ++ t) (there_stub (map.get files path) bytes e))

-- ---- the order of paths

all_without : (P : List ℕ → Type 0) (xs ys : List (List ℕ)) (x : List ℕ) → AllByRecursion P (xs ++ x ∷ ys) → AllByRecursion P (xs ++ ys)
all_without P [] ys x a = a.1
all_without P (z ∷ xs) ys x a = (a.0, all_without P xs ys x a.1)

pub order_without : (xs ys : List (List ℕ)) (x : List ℕ) → IsInOrder (xs ++ x ∷ ys) → IsInOrder (xs ++ ys)
unfolding IsStrictlySortedBy
order_without [] ys x s = s.1
order_without (z ∷ xs) ys x s = (all_without _ xs ys x s.0, order_without xs ys x s.1)

pub order_with : (old : List SourceFile) (s : SourceFile) (others : List (List ℕ)) → IsInOrder (paths_of old ++ s.path ∷ others) → IsInOrder (paths_of (old ++ s ∷ []) ++ others)
order_with old s others h =
    subst IsInOrder (sym (append_assoc (paths_of old) (s.path ∷ []) others) ∙ ap (λ ps. ps ++ others) (sym (map-append (λ (s : SourceFile). s.path) old (s ∷ [])))) h

-- ---- stops

pub read_fault : IsReadStop stop.ReadFault
unfolding IsReadStop
read_fault = tt

pub no_memory : IsReadStop stop.NoMemory
unfolding IsReadStop
no_memory = tt

pub limit_passed : (l : Limit) → IsReadStop (stop.Limit l)
unfolding IsReadStop
limit_passed l = tt

pub store_stop : (f : StoreFault) (s : Stop) → s ≡ stop_of f → IsReadStop s
unfolding IsReadStop
store_stop fault.Failed s e = rw e tt
store_stop fault.TooMany s e = rw e tt
store_stop fault.NoMemory s e = rw e tt

pub memory_is : (s : Stop) → s ≡ stop.NoMemory → IsReadStop s
unfolding IsReadStop
memory_is s e = rw e tt

pub ruleset read_stops = (read_fault, no_memory, limit_passed, store_stop, memory_is)

pub ruleset found_at = (other_at, unread_at, absent_at, stub_source_at, there_at, other_stub_at, uncounted_stub_at, absent_stub_at, there_stub_at, order_without, order_with, read_fault, no_memory, limit_passed, store_stop, memory_is)

-- ---- limits

or_true : (b : Bool) → (b || true) ≡ true
or_true true = refl
or_true false = refl

module _ (listed files : Files) where
  pub no_limit : map.len listed ≤ MOST_PATHS → map.len files ≤ MOST_PATHS → count_counted (map.keys files) ≤ MOST_FILES → bytes_read files (map.keys files) ≤ MOST_IN_ALL → limit_of listed files ≡ None
  unfolding limit_of
  no_limit l p f b =
      rw (le-ltb MOST_PATHS (map.len listed) l, le-ltb MOST_PATHS (map.len files) p, le-ltb MOST_FILES (count_counted (map.keys files)) f, le-ltb MOST_IN_ALL (bytes_read files (map.keys files)) b) refl

  pub past_paths : (MOST_PATHS < map.len listed) ⊎ (MOST_PATHS < map.len files) → limit_of listed files ≡ Some limit.Paths
  unfolding limit_of
  past_paths (inl l) = rw (lt-ltb MOST_PATHS (map.len listed) l) refl
  past_paths (inr p) = rw (lt-ltb MOST_PATHS (map.len files) p, or_true (nat_lt MOST_PATHS (map.len listed))) refl

  pub past_files : map.len listed ≤ MOST_PATHS → map.len files ≤ MOST_PATHS → MOST_FILES < count_counted (map.keys files) → limit_of listed files ≡ Some limit.Files
  unfolding limit_of
  past_files l p f =
      rw (le-ltb MOST_PATHS (map.len listed) l, le-ltb MOST_PATHS (map.len files) p, lt-ltb MOST_FILES (count_counted (map.keys files)) f) refl

  pub past_bytes : map.len listed ≤ MOST_PATHS → map.len files ≤ MOST_PATHS → count_counted (map.keys files) ≤ MOST_FILES → MOST_IN_ALL < bytes_read files (map.keys files) → limit_of listed files ≡ Some limit.Bytes
  unfolding limit_of
  past_bytes l p f b =
      rw (le-ltb MOST_PATHS (map.len listed) l, le-ltb MOST_PATHS (map.len files) p, le-ltb MOST_FILES (count_counted (map.keys files)) f, lt-ltb MOST_IN_ALL (bytes_read files (map.keys files)) b) refl

  -- a list of paths that is that of all
  module _ (ps : List (List ℕ)) (is : ps ≡ map.keys files) (l : map.len listed ≤ MOST_PATHS) (p : map.len files ≤ MOST_PATHS) (f : count_counted (map.keys files) ≤ MOST_FILES) where
    pub all_in_limit : bytes_read files ps ≤ MOST_IN_ALL → limit_of listed files ≡ None
    all_in_limit b = no_limit l p f (subst (λ xs. bytes_read files xs ≤ MOST_IN_ALL) is b)

    pub all_past : (passed : Limit) → (passed ≡ limit.Bytes) × (MOST_IN_ALL < bytes_read files ps) → limit_of listed files ≡ Some passed
    all_past passed b = past_bytes l p f (subst (λ xs. MOST_IN_ALL < bytes_read files xs) is b.1) ∙ ap Some (sym b.0)

pub all_files : (files : Files) (ps : List (List ℕ)) (found : List SourceFile) → ps ≡ map.keys files → found ≡ sources_at files ps → found ≡ sources_of files
unfolding sources_of
all_files files ps found is e = e ∙ ap (sources_at files) is

pub all_stubs : (files : Files) (ps : List (List ℕ)) (found : List Stub) → ps ≡ map.keys files → found ≡ stubs_at files ps → found ≡ stubs_of files
unfolding stubs_of
all_stubs files ps found is e = e ∙ ap (stubs_at files) is

-- a list of paths that was too long
pub too_many : (listed files : Files) (f : StoreFault) (s : Stop) (l : Limit) → s ≡ stop_of f
    → (f ≡ fault.TooMany → (MOST_PATHS < map.len listed) ⊎ (MOST_PATHS < map.len files)) → s ≡ stop.Limit l → limit_of listed files ≡ Some l
too_many listed files fault.Failed s l e h i = absurd (cc)
too_many listed files fault.TooMany s l e h i = past_paths listed files (h refl) ∙ ap Some (let same : stop.Limit limit.Paths ≡ stop.Limit l = sym e ∙ i in cc)
too_many listed files fault.NoMemory s l e h i = absurd (cc)

pub ruleset all_listed = (past_paths, past_files, read_fault, no_memory, limit_passed, store_stop)

pub ruleset all_found = (all_in_limit, all_past, all_files, all_stubs, read_fault, no_memory, limit_passed)

-- ---- one path more

module _ (files : Files) (path : List ℕ) (left left' : List (List ℕ)) (cut : left' ≡ path ∷ left) where
  pub sources_more : (files' : Files) (path' : List ℕ) → files' ≡ files → path' ≡ path → (old new all : List SourceFile) → new ≡ old ++ source_at files' path' → old ++ sources_at files left' ≡ all → new ++ sources_at files left ≡ all
  unfolding sources_at
  sources_more files' path' fs ps old new all e h =
      ap (λ t. t ++ sources_at files left) (e ∙ ap (λ p. old ++ source_at files' p) ps ∙ ap (λ f. old ++ source_at f path) fs) ∙ append_assoc old (source_at files path) (sources_at files left)
      ∙ sym (ap (λ l. old ++ sources_at files l) cut) ∙ h

  pub stubs_more : (files' : Files) (path' : List ℕ) → files' ≡ files → path' ≡ path → (old new all : List Stub) → new ≡ old ++ stub_at files' path' → old ++ stubs_at files left' ≡ all → new ++ stubs_at files left ≡ all
  unfolding stubs_at
  stubs_more files' path' fs ps old new all e h =
      ap (λ t. t ++ stubs_at files left) (e ∙ ap (λ p. old ++ stub_at files' p) ps ∙ ap (λ f. old ++ stub_at f path) fs) ∙ append_assoc old (stub_at files path) (stubs_at files left)
      ∙ sym (ap (λ l. old ++ stubs_at files l) cut) ∙ h

pub stubs_all : (files : Files) (found all : List Stub) (left : List (List ℕ)) → left ≡ [] → found ++ stubs_at files left ≡ all → found ≡ all
unfolding stubs_at
stubs_all files found all left none h = sym (append-nil found) ∙ sym (ap (λ l. found ++ stubs_at files l) none) ∙ h

pub sources_all : (files : Files) (found all : List SourceFile) (left : List (List ℕ)) → left ≡ [] → found ++ sources_at files left ≡ all → found ≡ all
unfolding sources_at
sources_all files found all left none h = sym (append-nil found) ∙ sym (ap (λ l. found ++ sources_at files l) none) ∙ h

pub order_all : (ps left : List (List ℕ)) → left ≡ [] → IsInOrder (ps ++ left) → IsInOrder ps
order_all ps left none h = subst IsInOrder (ap (λ l. ps ++ l) none ∙ append-nil ps) h
