-- What is told of files and stubs, each in the order of their paths, is woven into what is told of all paths.
use Rattle.std.proofs.Common.{◌≡◌, ℕ, suc, ◌<◌, ◌≤◌, ◌+◌, ◌-◌, ◌++◌, ◌||◌, Bool, true, false, List, [], ◌∷◌, length, take, drop, get_or, map as map_list, Option, None, Some, refl, sym, ap, subst, ◌∙◌, append_assoc, append-nil, arith, length-drop}
use Rattle.std.proofs.lemmas.Bool.{and_parts, both_ways, or_from}
use Rattle.std.proofs.lemmas.List.{drop_all, drop-drop, take_all}
use Rattle.std.specs.Prelude.{T, ◌&&◌, codes}
use Rattle.std.specs.List.{AllByRecursion, flat_map}
use Rattle.std.specs.List.Sorted.{IsStrictlySortedBy}
use Rattle.std.specs.Option.{option_map}
use Rattle.std.specs.Ordering.{is_lt, match_ordering, nat_cmp, ordering_reverse}
use Rattle.std.specs.declared.cmp.Ordering.{Ordering}
use Rattle.std.specs.declared.cmp.Ordering.TheVariants.{Less, Equal, Greater}
use Rattle.std.specs.Cmp.Lexicographic.{slice_cmp, nat_list_cmp_total}
use Rattle.std.specs.FinMap as map
use Rattle.std.specs.FinMap.{is_sorted}
use Rattle.std.specs.FinMap.Entries.{below_all}
use Rattle.rw_base.specs.declared.place.Refused.{Refused}
use Rattle.rw_host.specs.Files.{Files, IsInOrder, first_bytes}
use Rattle.rw_host.specs.declared.file.SourceFile.{SourceFile}
use Rattle.kept_files.specs.Kinds.{is_source}
use Rattle.kept_files.specs.Readings.{AreReadings, Reads}
use Rattle.kept_files.specs.States.{State}
use Rattle.kept_files.specs.declared.file.KeptFile.{KeptFile}
use Rattle.kept_files.specs.declared.reading.Reading.{Reading}
use Rattle.kept_files.specs.declared.reading.Reading.TheVariants as reading
use Rattle.j_repair.specs.Changes.{file_of}
use Rattle.scheduler.specs.Runs.{refusal_of}
use Rattle.scheduler.specs.declared.event.Event.{Event}
use Rattle.scheduler.specs.declared.event.Event.TheVariants as event
use Rattle.rewrite_cli.specs.declared.sources.TheConstants.{MOST_READ}
use Rattle.rewrite_cli.specs.declared.stubs.Stub.{Stub}
use Rattle.rewrite_cli.specs.Checking.{reading_of, refusal_at, refusal_in}
use Rattle.rewrite_cli.specs.Ends.{count_before}
use Rattle.rewrite_cli.specs.Opening.{opening}
use Rattle.rewrite_cli.specs.Running.{event_of, refusals}
use Rattle.rewrite_cli.specs.Sources.{is_counted, is_read, source_at, sources_at, sources_of}
use Rattle.rewrite_cli.specs.Stubs.{is_stub, stub_at, stub_reading, stubs_at, stubs_of}
use Rattle.rewrite_cli.proofs.FoundInFile.{absent, found, not_read as not_counted, unread}
use Rattle.rewrite_cli.proofs.ReportSteps.{cut_to}
use Rattle.rewrite_cli.proofs.StubPaths.{not_read, not_source}

-- ---- what is told of one file, or of one stub

quiet : (f : KeptFile) (r : Reading) → f.reading ≡ r → ((w : Refused) → r ≡ reading.Refused w → ⊥) → refusal_of f ≡ []
quiet f (reading.Refused w) e n = absurd (n w refl)
quiet f (reading.Java t) e n = rw e refl
quiet f (reading.Yaml t) e n = rw e refl
quiet f (reading.Properties t) e n = rw e refl
quiet f reading.Unread e n = rw e refl

pub file_told : (f : KeptFile) (r : Refused) (old : List Event) → f.reading ≡ reading.Refused r → old ++ event.Refused f.path r.place r.cause ∷ [] ≡ old ++ refusal_of f
file_told f r old e = rw e refl

pub file_quiet : (f : KeptFile) (old : List Event) → ((w : Refused) → f.reading ≡ reading.Refused w → ⊥) → old ≡ old ++ refusal_of f
file_quiet f old n = sym (ap (λ es. old ++ es) (quiet f f.reading refl n) ∙ append-nil old)

pub stub_told : (path : List ℕ) (refusal : Option Refused) (r : Refused) (old : List Event) → refusal ≡ Some r → old ++ event.Refused path r.place r.cause ∷ [] ≡ old ++ event_of path refusal
stub_told path refusal r old e = ap (λ o. old ++ event_of path o) (sym e)

pub stub_quiet : (path : List ℕ) (refusal : Option Refused) (old : List Event) → refusal ≡ None → old ≡ old ++ event_of path refusal
stub_quiet path refusal old e = sym (ap (λ o. old ++ event_of path o) e ∙ append-nil old)

pub ruleset told = (file_told, file_quiet, stub_told, stub_quiet)

-- ---- files, one after another

pub told_more : (fs : State) (i : ℕ) (f : KeptFile) (out new all : List Event) → i < length fs → f ≡ get_or fs i f → new ≡ out ++ refusal_of f → out ++ flat_map refusal_of (drop i fs) ≡ all
    → new ++ flat_map refusal_of (drop (i + 1) fs) ≡ all
told_more fs i f out new all lt is e h =
    ap (λ t. t ++ flat_map refusal_of (drop (i + 1) fs)) e
    ∙ (append_assoc out (refusal_of f) (flat_map refusal_of (drop (i + 1) fs))
    ∙ (sym (ap (λ xs. out ++ flat_map refusal_of xs) (cut_to fs i f lt is)) ∙ h))

pub told_end : (fs : State) (i : ℕ) (out all : List Event) → length fs ≤ i → out ++ flat_map refusal_of (drop i fs) ≡ all → out ≡ all
told_end fs i out all le h = sym (ap (λ xs. out ++ flat_map refusal_of xs) (drop_all i fs le) ∙ append-nil out) ∙ h

pub ruleset all_told = (told_more, told_end)

-- ---- how many stand before a path

first_before : (f : KeptFile) (fs : State) (path : List ℕ) → slice_cmp nat_cmp f.path path ≡ Less → count_before (f ∷ fs) path ≡ suc (count_before fs path)
first_before f fs path e = rw e refl

none_before : (o : Ordering) (n : ℕ) → (o ≡ Less → ⊥) → match_ordering o n 0 0 ≡ 0
none_before Less n h = absurd (h refl)
none_before Equal n h = refl
none_before Greater n h = refl

module _ (fs : State) (i : ℕ) (f : KeptFile) (path : List ℕ) (all : ℕ) (lt : i < length fs) (is : f ≡ get_or fs i f) (h : i + count_before (drop i fs) path ≡ all) where
  pub count_more : slice_cmp nat_cmp f.path path ≡ Less → (i + 1) + count_before (drop (i + 1) fs) path ≡ all
  count_more e =
      let here : count_before (drop i fs) path ≡ suc (count_before (drop (i + 1) fs) path) = ap (λ xs. count_before xs path) (cut_to fs i f lt is) ∙ first_before f (drop (i + 1) fs) path e in
      omega (arith, here, h)

  pub count_stop : (slice_cmp nat_cmp f.path path ≡ Less → ⊥) → i ≡ all
  count_stop n =
      let here : count_before (drop i fs) path ≡ 0 = ap (λ xs. count_before xs path) (cut_to fs i f lt is) ∙ none_before (slice_cmp nat_cmp f.path path) (suc (count_before (drop (i + 1) fs) path)) n in
      omega (arith, here, h)

pub count_end : (fs : State) (i : ℕ) (path : List ℕ) (all : ℕ) → length fs ≤ i → i + count_before (drop i fs) path ≡ all → i ≡ all
count_end fs i path all le h =
    let none : count_before (drop i fs) path ≡ 0 = ap (λ xs. count_before xs path) (drop_all i fs le) in
    omega (arith, none, h)

pub ruleset counted = (count_more, count_stop, count_end)

-- ---- files and stubs, woven

abbrev pub stub_events : Reads → Stub → List Event
stub_events read s = event_of s.path (refusal_in (stub_reading read (Some s.bytes)))

abbrev pub woven : Reads → State → List Stub → List Event
woven read fs [] = flat_map refusal_of fs
woven read fs (s ∷ ss) =
    flat_map refusal_of (take (count_before fs s.path) fs) ++ (stub_events read s ++ woven read (drop (count_before fs s.path) fs) ss)

-- parts of a list of files, as they are cut
pub rest_is : (fs : State) (i : ℕ) → take (length fs - i) (drop i fs) ≡ drop i fs
rest_is fs i = take_all (length fs - i) (drop i fs) (omega (arith, length-drop i fs))

pub part_is : (fs : State) (i n : ℕ) → take ((i + n) - i) (drop i fs) ≡ take n (drop i fs)
part_is fs i n = ap (λ k. take k (drop i fs)) (omega arith)

pub within : (fs : State) (i n : ℕ) → i ≤ length fs → n ≤ length (take (length fs - i) (drop i fs)) → i + n ≤ length fs
within fs i n le m = omega (arith, le, m, ap length (rest_is fs i), length-drop i fs)

-- a step: the files before a stub, and the stub
pub woven_more : (read : Reads) (fs part : State) (i n j : ℕ) (s : Stub) (left left' : List Stub) (old mid new all : List Event) → left' ≡ s ∷ left → n ≡ count_before (drop i fs) s.path
    → j ≡ i + n → part ≡ take n (drop i fs) → mid ≡ old ++ flat_map refusal_of part → new ≡ mid ++ stub_events read s → old ++ woven read (drop i fs) left' ≡ all → new ++ woven read (drop j fs) left ≡ all
woven_more read fs part i n j s left left' old mid new all cut count to is m e h =
    let rest = woven read (drop n (drop i fs)) left in
    ap (λ xs. new ++ woven read xs left) (ap (λ k. drop k fs) to ∙ sym (drop-drop n i fs))
    ∙ (ap (λ t. t ++ rest) (e ∙ ap (λ t. t ++ stub_events read s) (m ∙ ap (λ xs. old ++ flat_map refusal_of xs) is))
    ∙ (append_assoc (old ++ flat_map refusal_of (take n (drop i fs))) (stub_events read s) rest
    ∙ (append_assoc old (flat_map refusal_of (take n (drop i fs))) (stub_events read s ++ rest)
    ∙ (ap (λ k. old ++ (flat_map refusal_of (take k (drop i fs)) ++ (stub_events read s ++ woven read (drop k (drop i fs)) left))) count
    ∙ (sym (ap (λ ss. old ++ woven read (drop i fs) ss) cut) ∙ h)))))

pub woven_end : (read : Reads) (fs part : State) (i : ℕ) (left : List Stub) (old new all : List Event) → left ≡ [] → part ≡ drop i fs → new ≡ old ++ flat_map refusal_of part
    → old ++ woven read (drop i fs) left ≡ all → new ≡ all
woven_end read fs part i left old new all none is e h =
    e ∙ (ap (λ xs. old ++ flat_map refusal_of xs) is ∙ (sym (ap (λ ss. old ++ woven read (drop i fs) ss) none) ∙ h))

-- the files behind a path stand behind it too
greater_from_less : (x y : List ℕ) → slice_cmp nat_cmp x y ≡ Less → slice_cmp nat_cmp y x ≡ Greater
greater_from_less x y e = nat_list_cmp_total.antisymm y x ∙ ap ordering_reverse e

module _ (read : Reads) where
  -- a file before all stubs comes first
  file_first : (f : KeptFile) (fs : State) (ss : List Stub) → AllByRecursion (λ (s : Stub). slice_cmp nat_cmp f.path s.path ≡ Less) ss → woven read (f ∷ fs) ss ≡ refusal_of f ++ woven read fs ss
  file_first f fs [] all = refl
  file_first f fs (s ∷ ss) all =
      let n = count_before fs s.path in
      ap (λ k. flat_map refusal_of (take k (f ∷ fs)) ++ (stub_events read s ++ woven read (drop k (f ∷ fs)) ss)) (first_before f fs s.path all.0)
      ∙ append_assoc (refusal_of f) (flat_map refusal_of (take n fs)) (stub_events read s ++ woven read (drop n fs) ss)

  -- and so does a stub before all files
  stub_first : (s : Stub) (fs : State) (ss : List Stub) → AllByRecursion (λ (f : KeptFile). slice_cmp nat_cmp s.path f.path ≡ Less) fs → woven read fs (s ∷ ss) ≡ stub_events read s ++ woven read fs ss
  stub_first s [] ss all = refl
  stub_first s (f ∷ fs) ss all =
      let none : count_before (f ∷ fs) s.path ≡ 0 = rw (greater_from_less s.path f.path all.0) refl in
      ap (λ k. flat_map refusal_of (take k (f ∷ fs)) ++ (stub_events read s ++ woven read (drop k (f ∷ fs)) ss)) none

-- ---- a path of a repository

told_of : (path : List ℕ) (bytes : Option (List ℕ)) (r : Reading) → refusal_of (record { path = path; bytes = bytes; reading = r }) ≡ event_of path (refusal_in r)
told_of path bytes (reading.Refused w) = refl
told_of path bytes (reading.Java t) = refl
told_of path bytes (reading.Yaml t) = refl
told_of path bytes (reading.Properties t) = refl
told_of path bytes reading.Unread = refl

told_file : (read : Reads) (path : List ℕ) (bytes : Option (List ℕ)) → refusal_of (file_of read (record { path = path; bytes = bytes })) ≡ event_of path (refusal_in (read path bytes))
unfolding file_of
told_file read path bytes = told_of path bytes (read path bytes)

path_of_file : (read : Reads) (s : SourceFile) → (file_of read s).path ≡ s.path
unfolding file_of
path_of_file read s = refl

counted_read : (path : List ℕ) → is_read path ≡ true → is_counted path ≡ true
counted_read path r = rw r refl

counted_stub : (path : List ℕ) → is_stub path ≡ true → is_counted path ≡ true
counted_stub path s = rw (not_read path s, s) refl

module _ (read : Reads) (are : AreReadings read) (files : Files) where
  abbrev event_at : List ℕ → List Event
  event_at path = event_of path (refusal_at read files path)

  -- what stands at a path: a source file, a stub, or neither, of which nothing is told
  data Stands (path : List ℕ) : Type 0 where
    a_file : (s : SourceFile) → s.path ≡ path → source_at files path ≡ s ∷ [] → stub_at files path ≡ [] → refusal_of (file_of read s) ≡ event_at path → Stands path
    a_stub : (s : Stub) → s.path ≡ path → source_at files path ≡ [] → stub_at files path ≡ s ∷ [] → stub_events read s ≡ event_at path → Stands path
    nothing : source_at files path ≡ [] → stub_at files path ≡ [] → event_at path ≡ [] → Stands path

  read_there : (path : List ℕ) (m : Option (List ℕ)) → is_read path ≡ true → is_stub path ≡ false → map.get files path ≡ m → Stands path
  unfolding source_at stub_at
  read_there path None r s m =
      nothing (rw (r, m) refl) (rw s refl) (ap (event_of path) (absent files path read are (counted_read path r) (sym (ap (option_map (first_bytes MOST_READ)) m))))
  read_there path (Some b) r s m =
      let bytes = first_bytes MOST_READ b in
      let same : read path (Some bytes) ≡ reading_of read path (Some bytes) = rw s refl in
      a_file (record { path = path; bytes = Some bytes }) refl (rw (r, m) refl) (rw s refl)
      (told_file read path (Some bytes)
      ∙ ap (event_of path) (ap refusal_in same ∙ found files path read bytes (counted_read path r) (sym (ap (option_map (first_bytes MOST_READ)) m))))

  stub_there : (path : List ℕ) (m : Option (List ℕ)) → is_stub path ≡ true → map.get files path ≡ m → Stands path
  unfolding source_at stub_at
  stub_there path None s m =
      nothing (rw (not_read path s, not_source path s) refl) (rw (s, m) refl)
      (ap (event_of path) (absent files path read are (counted_stub path s) (sym (ap (option_map (first_bytes MOST_READ)) m))))
  stub_there path (Some b) s m =
      let bytes = first_bytes MOST_READ b in
      let same : stub_reading read (Some bytes) ≡ reading_of read path (Some bytes) = rw s refl in
      a_stub (record { path = path; bytes = bytes }) refl (rw (not_read path s, not_source path s) refl) (rw (s, m) refl)
      (ap (event_of path) (ap refusal_in same ∙ found files path read bytes (counted_stub path s) (sym (ap (option_map (first_bytes MOST_READ)) m))))

  unread_there : (path : List ℕ) (t : Bool) → is_read path ≡ false → is_stub path ≡ false → is_source path ≡ t → Stands path
  unfolding source_at stub_at
  unread_there path true r s t =
      let quiet_here : event_at path ≡ [] = ap (event_of path) (not_counted files path read (or_from _ _ r s)) in
      a_file (record { path = path; bytes = None }) refl (rw (r, t) refl) (rw s refl)
      (told_file read path None ∙ (ap (λ x. event_of path (refusal_in x)) (unread read are path) ∙ sym quiet_here))
  unread_there path false r s t = nothing (rw (r, t) refl) (rw s refl) (ap (event_of path) (not_counted files path read (or_from _ _ r s)))

  by_tests : (path : List ℕ) (r s : Bool) → is_read path ≡ r → is_stub path ≡ s → Stands path
  by_tests path r true is_r is_s = stub_there path (map.get files path) is_s refl
  by_tests path true false is_r is_s = read_there path (map.get files path) is_r is_s refl
  by_tests path false false is_r is_s = unread_there path (is_source path) is_r is_s refl

  stands : (path : List ℕ) → Stands path
  stands path = by_tests path (is_read path) (is_stub path) refl refl

  -- ---- all paths

  abbrev opened : List (List ℕ) → State
  opened paths = map_list (file_of read) (sources_at files paths)

  opened_more : (path : List ℕ) (paths : List (List ℕ)) (here : List SourceFile) → source_at files path ≡ here → opened (path ∷ paths) ≡ map_list (file_of read) (here ++ sources_at files paths)
  unfolding sources_at
  opened_more path paths here e = ap (λ ss. map_list (file_of read) (ss ++ sources_at files paths)) e

  stubs_more : (path : List ℕ) (paths : List (List ℕ)) (here : List Stub) → stub_at files path ≡ here → stubs_at files (path ∷ paths) ≡ here ++ stubs_at files paths
  unfolding stubs_at
  stubs_more path paths here e = ap (λ ss. ss ++ stubs_at files paths) e

  -- what holds of all paths holds of those of the files and of the stubs
  module _ (P : List ℕ → Type 0) where
    abbrev OfFiles : State → Type 0
    OfFiles fs = AllByRecursion (λ (f : KeptFile). P f.path) fs

    abbrev OfStubs : List Stub → Type 0
    OfStubs ss = AllByRecursion (λ (s : Stub). P s.path) ss

    one_opened : (path : List ℕ) (paths : List (List ℕ)) → P path → OfFiles (opened paths) → Stands path → OfFiles (opened (path ∷ paths))
    one_opened path paths here rest (a_file s at so st e) = subst OfFiles (sym (opened_more path paths _ so)) (subst P (sym (path_of_file read s ∙ at)) here, rest)
    one_opened path paths here rest (a_stub s at so st e) = subst OfFiles (sym (opened_more path paths _ so)) rest
    one_opened path paths here rest (nothing so st e) = subst OfFiles (sym (opened_more path paths _ so)) rest

    all_opened : (paths : List (List ℕ)) → AllByRecursion P paths → OfFiles (opened paths)
    unfolding sources_at
    all_opened [] all = tt
    all_opened (path ∷ paths) all = one_opened path paths all.0 (all_opened paths all.1) (stands path)

    one_stub : (path : List ℕ) (paths : List (List ℕ)) → P path → OfStubs (stubs_at files paths) → Stands path → OfStubs (stubs_at files (path ∷ paths))
    one_stub path paths here rest (a_file s at so st e) = subst OfStubs (sym (stubs_more path paths _ st)) rest
    one_stub path paths here rest (a_stub s at so st e) = subst OfStubs (sym (stubs_more path paths _ st)) (subst P (sym at) here, rest)
    one_stub path paths here rest (nothing so st e) = subst OfStubs (sym (stubs_more path paths _ st)) rest

    all_stubs : (paths : List (List ℕ)) → AllByRecursion P paths → OfStubs (stubs_at files paths)
    unfolding stubs_at
    all_stubs [] all = tt
    all_stubs (path ∷ paths) all = one_stub path paths all.0 (all_stubs paths all.1) (stands path)

  woven_one : (path : List ℕ) (paths : List (List ℕ)) → AllByRecursion (λ q. slice_cmp nat_cmp path q ≡ Less) paths
      → woven read (opened paths) (stubs_at files paths) ≡ flat_map event_at paths → Stands path
      → woven read (opened (path ∷ paths)) (stubs_at files (path ∷ paths)) ≡ flat_map event_at (path ∷ paths)
  woven_one path paths below rest (a_file s at so st e) =
      ap (λ fs. woven read fs (stubs_at files (path ∷ paths))) (opened_more path paths _ so)
      ∙ (ap (woven read (file_of read s ∷ opened paths)) (stubs_more path paths _ st)
      ∙ (file_first read (file_of read s) (opened paths) (stubs_at files paths)
      (subst (λ p. AllByRecursion (λ (t : Stub). slice_cmp nat_cmp p t.path ≡ Less) (stubs_at files paths)) (sym (path_of_file read s ∙ at))
      (all_stubs (λ q. slice_cmp nat_cmp path q ≡ Less) paths below))
      ∙ (ap (λ es. es ++ woven read (opened paths) (stubs_at files paths)) e ∙ ap (λ es. event_at path ++ es) rest)))
  woven_one path paths below rest (a_stub s at so st e) =
      ap (λ fs. woven read fs (stubs_at files (path ∷ paths))) (opened_more path paths _ so)
      ∙ (ap (woven read (opened paths)) (stubs_more path paths _ st)
      ∙ (stub_first read s (opened paths) (stubs_at files paths)
      (subst (λ p. AllByRecursion (λ (f : KeptFile). slice_cmp nat_cmp p f.path ≡ Less) (opened paths)) (sym at)
      (all_opened (λ q. slice_cmp nat_cmp path q ≡ Less) paths below))
      ∙ (ap (λ es. es ++ woven read (opened paths) (stubs_at files paths)) e ∙ ap (λ es. event_at path ++ es) rest)))
  woven_one path paths below rest (nothing so st e) =
      ap (λ fs. woven read fs (stubs_at files (path ∷ paths))) (opened_more path paths _ so)
      ∙ (ap (woven read (opened paths)) (stubs_more path paths _ st)
      ∙ (rest ∙ sym (ap (λ es. es ++ flat_map event_at paths) e)))

  woven_is : (paths : List (List ℕ)) → IsInOrder paths → woven read (opened paths) (stubs_at files paths) ≡ flat_map event_at paths
  unfolding IsStrictlySortedBy sources_at stubs_at
  woven_is [] up = refl
  woven_is (path ∷ paths) up = woven_one path paths up.0 (woven_is paths up.1) (stands path)

-- ---- the paths of a repository

is_Less : (r : Ordering) → is_lt r ≡ true → r ≡ Less
is_Less Less e = refl
is_Less Equal e = absurd (both_ways false refl e)
is_Less Greater e = absurd (both_ways false refl e)

is_true : (b : Bool) → T b → b ≡ true
is_true true h = refl
is_true false h = absurd h

all_below : {X : Type 0} (x : List ℕ) (es : List (List ℕ × X)) → below_all (slice_cmp nat_cmp) x es ≡ true → AllByRecursion (λ y. slice_cmp nat_cmp x y ≡ Less) (map_list (λ e. e.0) es)
all_below x [] below = tt
all_below x (e ∷ es) below = (is_Less _ (and_parts _ _ below).0, all_below x es (and_parts _ _ below).1)

keys_in_order : {X : Type 0} (es : List (List ℕ × X)) → is_sorted (slice_cmp nat_cmp) es ≡ true → IsInOrder (map_list (λ e. e.0) es)
unfolding IsStrictlySortedBy
keys_in_order [] sorted = tt
keys_in_order (e ∷ es) sorted = (all_below e.0 es (and_parts _ _ sorted).0, keys_in_order es (and_parts _ _ sorted).1)

pub keys_rise : (files : Files) → IsInOrder (map.keys files)
keys_rise files = keys_in_order (map.entries files) (is_true _ (map.entries_sorted files))

-- the files and the stubs of a repository
pub all_woven : (read : Reads) (files : Files) (kept : State) (stubs : List Stub) → AreReadings read → kept ≡ opening read files → stubs ≡ stubs_of files → woven read kept stubs ≡ refusals read files
unfolding opening sources_of stubs_of refusals
all_woven read files kept stubs are k s =
    ap (λ fs. woven read fs stubs) k ∙ (ap (woven read (map_list (file_of read) (sources_at files (map.keys files)))) s ∙ woven_is read are files (map.keys files) (keys_rise files))

pub ruleset woven_all = (woven_more, woven_end, all_woven, within)
