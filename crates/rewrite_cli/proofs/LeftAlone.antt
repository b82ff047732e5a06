-- A run leaves the bytes of each path that no step of it touches.
use Rattle.std.specs.Prelude.{nat_lt, if◌then◌else◌, Some, None, Option, Result, Ok, Err, map as map_list}
use Rattle.std.proofs.Common.{◌≡◌, ◌⊎◌, inl, inr, ℕ, ◌++◌, ◌||◌, Bool, true, false, cond, List, [], ◌∷◌, length, refl}
use Rattle.std.proofs.Common.{sym, ap, subst, ◌∙◌}
use Rattle.std.proofs.lemmas.Bool.{both_ways, cases_Bool}
use Rattle.std.proofs.lemmas.Slice.Eq.{bytes_eq-Decides}
use Rattle.std.specs.List.{AllByRecursion}
use Rattle.std.specs.List.Sorted.{IsStrictlySortedBy}
use Rattle.std.specs.Str.{bytes_eq}
use Rattle.std.specs.Ordering.{eq_by_cmp, nat_cmp, match_ordering}
use Rattle.std.specs.Cmp.Lexicographic.{slice_cmp}
use Rattle.std.specs.FinMap as map
use Rattle.std.specs.declared.cmp.Ordering.TheVariants.{Less, Equal, Greater}
use Rattle.rw_host.specs.Files.{Files, first_bytes}
use Rattle.rw_host.specs.declared.file.SourceFile.{SourceFile}
use Rattle.journal_text.specs.Changes.{Change as Written, gate, journal}
use Rattle.journal_text.specs.Text.{journal_text}
use Rattle.run_journal.specs.Standing.{applied, committed, touches}
use Rattle.run_journal.proofs.Images.{applied_off, off_path}
use Rattle.run_journal.proofs.Order.{equal_from_same, exact, less_from_greater, ties_decide, total}
use Rattle.run_history.specs.declared.row.RunRow.{RunRow}
use Rattle.kept_files.specs.Kinds.{is_source}
use Rattle.kept_files.specs.Readings.{Reads}
use Rattle.kept_files.specs.States.{State, IsBelow}
use Rattle.kept_files.specs.declared.file.KeptFile.{KeptFile}
use Rattle.recipe_yaml.specs.declared.fault.RecipeFault.{RecipeFault}
use Rattle.recipe_yaml.specs.declared.plans.Plan.{Plan}
use Rattle.j_repair.specs.Changes.{file_of as kept_of}
use Rattle.scheduler.specs.declared.event.Event.{Event}
use Rattle.scheduler.specs.Runs.{Run, Reached, end, reached, run, same_bytes, too_much}
use Rattle.scheduler.specs.Touched.{IsTouched}
use Rattle.scheduler.specs.Untouched.{at_path}
use Rattle.scheduler.proofs.Standing.{AreInOrder, below_same, below_through, elsewhere}
use Rattle.scheduler.proofs.Touching.{run_touches}
use Rattle.scheduler.proofs.Untouched.{last_order}
use Rattle.command_words.specs.Words.{Asked, apply}
use Rattle.rewrite_cli.specs.declared.changes.Change.{Change}
use Rattle.rewrite_cli.specs.declared.changes.Change.TheVariants.{Created, Changed, Removed}
use Rattle.rewrite_cli.specs.declared.limits.Limit.{Limit}
use Rattle.rewrite_cli.specs.declared.limits.Limit.TheVariants as limit
use Rattle.rewrite_cli.specs.declared.limits.TheConstants.{MOST_JOURNAL}
use Rattle.rewrite_cli.specs.declared.sources.TheConstants.{MOST_READ}
use Rattle.rewrite_cli.specs.Answers.{Answer, answer, by_batch, by_end, by_history, done_with, left_by_run}
use Rattle.rewrite_cli.specs.Answers.{over_recovered, run_answer, run_batch, stopped, within}
use Rattle.rewrite_cli.specs.Changes.{against, batch_of, batch_with, changed_to, changes, file_of, is_kept_out}
use Rattle.rewrite_cli.specs.Changes.{is_removal, kept_for, put_at, written_at}
use Rattle.rewrite_cli.specs.Histories.{History, rows, damaged as no_history, history_bytes, history_path}
use Rattle.rewrite_cli.specs.Journals.{Journal, closed, pending, damaged, recovered}
use Rattle.rewrite_cli.specs.Limits.{limit_of}
use Rattle.rewrite_cli.specs.Meanings.{Meanings}
use Rattle.rewrite_cli.specs.Opening.{opening, plan_in}
use Rattle.rewrite_cli.specs.Running.{Ran, Ends, ran, fault, past, ran_by, ended, ended_by, refusals}
use Rattle.rewrite_cli.specs.Sources.{is_read, source_at, sources_at, sources_of, with_bytes}
use Rattle.rewrite_cli.specs.Untouched.{RunLeavesTheUntouched, RunTouches}
use Rattle.rewrite_cli.proofs.Weaving.{keys_rise}

less_not_same : (p q : List ℕ) → slice_cmp nat_cmp p q ≡ Less → p ≡ q → ⊥
less_not_same p q lt e = let bad : Less ≡ Equal = sym lt ∙ equal_from_same p q e in cc

other_way : (p q : List ℕ) → bytes_eq p q ≡ false → bytes_eq q p ≡ false
other_way p q e = elim (cases_Bool (bytes_eq q p)) [
  | inl at ↦ absurd (both_ways (bytes_eq p q) e ((bytes_eq-Decides p q).1 (sym ((bytes_eq-Decides q p).0 at))))
  | inr other ↦ other
]

-- ---- what a batch leaves

by_first : (x a b : Bool) → (x || a) ≡ false → (a ≡ false → b ≡ false) → (x || b) ≡ false
by_first true a b e h = absurd (cc)
by_first false a b e h = h e

or_first : (a b : Bool) → (a || b) ≡ false → a ≡ false
or_first true b e = absurd (cc)
or_first false b e = refl

or_second : (a b : Bool) → (a || b) ≡ false → b ≡ false
or_second true b e = absurd (cc)
or_second false b e = e

same_itself : (o : Option (List ℕ)) → same_bytes o o ≡ true
same_itself None = refl
same_itself (Some bytes) = (bytes_eq-Decides bytes bytes).1 refl

module _ (path : List ℕ) where
  away : (p : List ℕ) → bytes_eq p path ≡ false → eq_by_cmp (slice_cmp nat_cmp) path p ≡ false
  away p e = elim (cases_Bool (eq_by_cmp (slice_cmp nat_cmp) path p)) [
    | inl at ↦ absurd (both_ways (bytes_eq p path) e ((bytes_eq-Decides p path).1 (sym ((ties_decide path p).0 at))))
    | inr other ↦ other
  ]

  one_away : (p : List ℕ) (o : Option (List ℕ)) → bytes_eq p path ≡ false → touches ((p, o) ∷ []) path ≡ false
  one_away p o e = rw (away p e) refl

  touches_append : (ws vs : List Written) → touches ws path ≡ false → touches vs path ≡ false
      → touches (ws ++ vs) path ≡ false
  touches_append [] vs a b = b
  touches_append (w ∷ ws) vs a b =
      by_first (eq_by_cmp (slice_cmp nat_cmp) path w.0) (touches ws path) (touches (ws ++ vs) path) a
      (λ c. touches_append ws vs c b)

  put_away : (p : List ℕ) (o : Option (List ℕ)) → bytes_eq p path ≡ false → touches (put_at p o) path ≡ false
  put_away p None e = refl
  put_away p (Some bytes) e = one_away p (Some bytes) e

  written_away : (f : KeptFile) (removed : Bool) → bytes_eq f.path path ≡ false
      → touches (written_at f removed) path ≡ false
  written_away f true e = one_away f.path None e
  written_away f false e = put_away f.path f.bytes e

  kept_away : (c : Change) → bytes_eq (file_of c).path path ≡ false → touches (kept_for c) path ≡ false
  unfolding kept_for
  kept_away c e = elim (is_kept_out (file_of c).path) as
      (λ b. touches (if b then [] else written_at (file_of c) (is_removal c)) path ≡ false) [
        | true ↦ refl
        | false ↦ written_away (file_of c) (is_removal c) e
      ]

  -- none of these changes is at the path
  abbrev NoneAt : List Change → Type 0
  NoneAt [] = Unit {0}
  NoneAt (c ∷ cs) = (bytes_eq (file_of c).path path ≡ false) × NoneAt cs

  batch_away : (cs : List Change) → NoneAt cs → touches (batch_of cs) path ≡ false
  unfolding batch_of
  batch_away [] n = refl
  batch_away (c ∷ cs) n = touches_append (kept_for c) (batch_of cs) (kept_away c n.0) (batch_away cs n.1)

  with_away : (w : Written) (ws : List Written) → bytes_eq w.0 path ≡ false → touches ws path ≡ false
      → touches (batch_with w ws) path ≡ false
  unfolding batch_with
  with_away w [] a b = one_away w.0 w.1 a
  with_away w (x ∷ xs) a b = elim (slice_cmp nat_cmp x.0 w.0) as
      (λ r. touches (match_ordering r (x ∷ batch_with w xs) (w ∷ x ∷ xs) (w ∷ x ∷ xs)) path ≡ false) [
        | Less ↦ by_first (eq_by_cmp (slice_cmp nat_cmp) path x.0) (touches xs path) (touches (batch_with w xs) path) b
            (λ c. with_away w xs a c)
        | Equal ↦ rw (away w.0 a) b
        | Greater ↦ rw (away w.0 a) b
      ]

  inserted_away : (files : Files) (p bytes : List ℕ) → bytes_eq p path ≡ false
      → map.get (map.insert files p bytes) path ≡ map.get files path
  inserted_away files p bytes e =
      map.get-insert total files p bytes path ∙ ap (λ b. cond b (Some bytes) (map.get files path)) (away p e)

  committed_away : (ws : List Written) (files : Files) → touches ws path ≡ false → bytes_eq gate path ≡ false
      → bytes_eq journal path ≡ false → map.get (committed ws files) path ≡ map.get files path
  committed_away ws files t g j =
      let sealed = map.insert files journal (journal_text ws) in
      let opened = map.insert sealed gate (49 ∷ []) in
      off_path gate (applied ws opened) path (away gate g)
      ∙ (applied_off ws opened path t
      ∙ (inserted_away sealed gate (49 ∷ []) g ∙ inserted_away files journal (journal_text ws) j))

  -- ---- what two states with the same file at the path differ in

  here : (f : KeptFile) (fs : State) → bytes_eq f.path path ≡ true → at_path path (f ∷ fs) ≡ f ∷ at_path path fs
  here f fs e = rw e refl

  none_behind : (p : List ℕ) (fs : State) → IsBelow p fs → p ≡ path → at_path path fs ≡ []
  none_behind p [] b e = refl
  none_behind p (f ∷ fs) b e = elim (cases_Bool (bytes_eq f.path path)) [
    | inl at ↦ absurd (less_not_same p f.path b.0 (e ∙ sym ((bytes_eq-Decides f.path path).0 at)))
    | inr other ↦ elsewhere path f fs other ∙ none_behind p fs b.1 e
  ]

  not_alone : (f : KeptFile) (fs gs : State) → bytes_eq f.path path ≡ true
      → at_path path (f ∷ fs) ≡ at_path path gs → at_path path gs ≡ [] → ⊥
  not_alone f fs gs at e none = let bad : f ∷ at_path path fs ≡ [] = sym (here f fs at) ∙ (e ∙ none) in cc

  created_none : (gs : State) → [] ≡ at_path path gs → NoneAt (map_list Created gs)
  created_none [] e = tt
  created_none (g ∷ gs) e = elim (cases_Bool (bytes_eq g.path path)) [
    | inl at ↦ absurd (not_alone g gs [] at (sym e) refl)
    | inr other ↦ (other, created_none gs (e ∙ elsewhere path g gs other))
  ]

  changed_other : (f g : KeptFile) (cs : List Change) → bytes_eq g.path path ≡ false → NoneAt cs
      → NoneAt (changed_to f g ++ cs)
  changed_other f g cs other n = elim (same_bytes f.bytes g.bytes) as
      (λ b. NoneAt ((if b then [] else Changed g ∷ []) ++ cs)) [
        | true ↦ n
        | false ↦ (other, n)
      ]

  unchanged : (f g : KeptFile) (cs : List Change) → f ≡ g → NoneAt cs → NoneAt (changed_to f g ++ cs)
  unchanged f g cs e n =
      let same : same_bytes f.bytes g.bytes ≡ true =
      ap (λ (h : KeptFile). same_bytes f.bytes h.bytes) (sym e) ∙ same_itself f.bytes in
      subst (λ b. NoneAt ((if b then [] else Changed g ∷ []) ++ cs)) (sym same) n

  module _ (f : KeptFile) (fs : State) (below : IsBelow f.path fs)
      (others : (gs : State) → AreInOrder gs → at_path path fs ≡ at_path path gs → NoneAt (changes fs gs)) where
    removed_none : (gs : State) → AreInOrder gs → at_path path (f ∷ fs) ≡ at_path path gs
        → (bytes_eq f.path path ≡ true → at_path path gs ≡ []) → NoneAt (Removed f ∷ changes fs gs)
    removed_none gs k e none = elim (cases_Bool (bytes_eq f.path path)) [
      | inl at ↦ absurd (not_alone f fs gs at e (none at))
      | inr other ↦ (other, others gs k (sym (elsewhere path f fs other) ∙ e))
    ]

    equal_none : (g : KeptFile) (gs : State) → AreInOrder gs → at_path path (f ∷ fs) ≡ at_path path (g ∷ gs)
        → f.path ≡ g.path → NoneAt (changed_to f g ++ changes fs gs)
    equal_none g gs k e same =
        let at_g : bytes_eq g.path path ≡ bytes_eq f.path path = ap (λ p. bytes_eq p path) (sym same) in
        elim (cases_Bool (bytes_eq f.path path)) [
          | inl at ↦ let both : f ∷ at_path path fs ≡ g ∷ at_path path gs = sym (here f fs at)
              ∙ (e ∙ here g gs (at_g ∙ at)) in
              unchanged f g (changes fs gs) (cc) (others gs k (cc))
          | inr other ↦ changed_other f g (changes fs gs) (at_g ∙ other)
              (others gs k (sym (elsewhere path f fs other) ∙ (e ∙ elsewhere path g gs (at_g ∙ other))))
        ]

    against_none : (gs : State) → AreInOrder gs → at_path path (f ∷ fs) ≡ at_path path gs
        → NoneAt (against f (changes fs) gs)
    against_none [] k e = removed_none [] tt e (λ at. refl)
    against_none (g ∷ gs) k e = elim (slice_cmp nat_cmp f.path g.path) as
        (λ r. slice_cmp nat_cmp f.path g.path ≡ r
        → NoneAt (match_ordering r (Removed f ∷ changes fs (g ∷ gs)) (changed_to f g ++ changes fs gs)
        (Created g ∷ against f (changes fs) gs))) [
          | Less ↦ λ c. removed_none (g ∷ gs) k e
              (λ at. none_behind f.path (g ∷ gs) (c, below_through f.path g.path gs c k.0)
              ((bytes_eq-Decides f.path path).0 at))
          | Equal ↦ λ c. equal_none g gs k.1 e (exact f.path g.path c)
          | Greater ↦ λ c. elim (cases_Bool (bytes_eq g.path path)) [
            | inl at ↦ let less = less_from_greater f.path g.path c in
                absurd (not_alone g gs (f ∷ fs) at (sym e)
                (none_behind g.path (f ∷ fs) (less, below_through g.path f.path fs less below)
                ((bytes_eq-Decides g.path path).0 at)))
            | inr other ↦ (other, against_none gs k.1 (e ∙ elsewhere path g gs other))
          ]
        ] refl

  changes_none : (fs gs : State) → AreInOrder fs → AreInOrder gs → at_path path fs ≡ at_path path gs
      → NoneAt (changes fs gs)
  unfolding changes
  changes_none [] gs k l e = created_none gs e
  changes_none (f ∷ fs) gs k l e = against_none f fs k.0 (λ hs m d. changes_none fs hs k.1 m d) gs l e

-- ---- the opening state is in the order of paths

-- at most one source file, and it is at the path
abbrev IsAlone : List ℕ → List SourceFile → Type 0
IsAlone path [] = Unit {0}
IsAlone path (s ∷ []) = s.path ≡ path
IsAlone path (s ∷ t ∷ ss) = ⊥

bytes_alone : (path : List ℕ) (bytes : Option (List ℕ)) → IsAlone path (with_bytes path bytes)
bytes_alone path None = tt
bytes_alone path (Some bytes) = refl

source_alone : (files : Files) (path : List ℕ) → IsAlone path (source_at files path)
unfolding source_at
source_alone files path = elim (is_read path) as
    (λ b. IsAlone path (if b then with_bytes path (map.get files path)
    else if is_source path then record { path = path; bytes = None } ∷ [] else [])) [
      | true ↦ bytes_alone path (map.get files path)
      | false ↦ elim (is_source path) as
          (λ b. IsAlone path (if b then record { path = path; bytes = None } ∷ [] else [])) [
            | true ↦ refl
            | false ↦ tt
          ]
    ]

module _ (read : Reads) where
  abbrev all_kept : List SourceFile → State
  all_kept ss = map_list (kept_of read) ss

  front_below : (p path : List ℕ) (ss rest : List SourceFile) → IsAlone path ss → slice_cmp nat_cmp p path ≡ Less
      → IsBelow p (all_kept rest) → IsBelow p (all_kept (ss ++ rest))
  unfolding kept_of
  front_below p path [] rest a lt b = b
  front_below p path (s ∷ []) rest a lt b = (ap (slice_cmp nat_cmp p) a ∙ lt, b)
  front_below p path (s ∷ t ∷ ss) rest a lt b = absurd a

  front_order : (path : List ℕ) (ss rest : List SourceFile) → IsAlone path ss → IsBelow path (all_kept rest)
      → AreInOrder (all_kept rest) → AreInOrder (all_kept (ss ++ rest))
  unfolding kept_of
  front_order path [] rest a b k = k
  front_order path (s ∷ []) rest a b k = (below_same s.path path (all_kept rest) a b, k)
  front_order path (s ∷ t ∷ ss) rest a b k = absurd a

  sources_below : (files : Files) (p : List ℕ) (paths : List (List ℕ))
      → AllByRecursion (λ q. slice_cmp nat_cmp p q ≡ Less) paths → IsBelow p (all_kept (sources_at files paths))
  unfolding sources_at
  sources_below files p [] all = tt
  sources_below files p (q ∷ paths) all =
      front_below p q (source_at files q) (sources_at files paths) (source_alone files q) all.0
      (sources_below files p paths all.1)

  sources_order : (files : Files) (paths : List (List ℕ)) → IsStrictlySortedBy (slice_cmp nat_cmp) paths
      → AreInOrder (all_kept (sources_at files paths))
  unfolding sources_at IsStrictlySortedBy
  sources_order files [] k = tt
  sources_order files (q ∷ paths) k =
      front_order q (source_at files q) (sources_at files paths) (source_alone files q)
      (sources_below files q paths k.0) (sources_order files paths k.1)

  opening_order : (files : Files) → AreInOrder (opening read files)
  unfolding opening sources_of
  opening_order files = sources_order files (map.keys files) (keys_rise files)

-- ---- what a run came to

module _ (r : Ran) where
  of_reached : (told : List Event) (first : State) (made : Run) (to : Reached) → ran_by told first made to ≡ ran r
      → (r.first ≡ first) × ((events : List Event) × (to ≡ end r.last events))
  of_reached told first made (end last events) e =
      let is : record {
        first = first;
        last = last;
        events = told ++ events;
        cycles = made.cycles;
        still_changing = made.still_changing;
      } ≡ r = cc in
      (sym (ap (λ (q : Ran). q.first) is), (events, ap (λ (q : Ran). end q.last events) is))
  of_reached told first made (too_much files bytes) e = absurd (cc)

  abbrev CameTo : Reads → ℕ → State → Plan → Type 0
  CameTo read cycles first plan =
      (r.first ≡ first) × ((events : List Event) × (reached first [] (run read plan cycles first).stages ≡ end r.last events))

  of_ended : (read : Reads) (cycles : ℕ) (told : List Event) (first : State) (plan : Result Plan RecipeFault)
      → ended_by read cycles told first plan ≡ ran r
      → (p : Plan) × ((plan ≡ Ok p) × CameTo read cycles first p)
  unfolding ended_by
  of_ended read cycles told first (Err f) e = absurd (cc)
  of_ended read cycles told first (Ok p) e =
      let made = run read p cycles first in
      (p, (refl, of_reached told first made (reached first [] made.stages) e))

-- ---- what a run leaves

module _ (meanings : Meanings) (asked : Asked) (files : Files) (path : List ℕ) (free : is_kept_out path ≡ false) where
  abbrev IsLeft : Answer → Type 0
  IsLeft a = (map.get a.left path ≡ map.get files path) ⊎ RunTouches meanings asked files path

  no_gate_or_journal : (bytes_eq path gate || bytes_eq path journal) ≡ false
  no_gate_or_journal = or_first (bytes_eq path gate || bytes_eq path journal) (bytes_eq path history_path) free

  batch_left : (r : Ran) (ws batch : List Written) → touches batch path ≡ false
      → map.get (by_batch ws files asked r batch).left path ≡ map.get files path
  batch_left r [] batch t = refl
  batch_left r (w ∷ ws) batch t = elim (nat_lt MOST_JOURNAL (length (journal_text batch))) as
      (λ b. map.get (if b then stopped limit.JournalBytes files else done_with asked r (committed batch files)).left
      path ≡ map.get files path) [
        | true ↦ refl
        | false ↦ committed_away path batch files t
            (other_way path gate (or_first (bytes_eq path gate) (bytes_eq path journal) no_gate_or_journal))
            (other_way path journal (or_second (bytes_eq path gate) (bytes_eq path journal) no_gate_or_journal))
      ]

  same_left : (runs : List RunRow) (r : Ran) → AreInOrder r.first → AreInOrder r.last
      → at_path path r.first ≡ at_path path r.last
      → map.get (left_by_run runs files asked r).left path ≡ map.get files path
  unfolding run_batch
  same_left runs r k l e =
      let t = batch_away path (changes r.first r.last) (changes_none path r.first r.last k l e) in
      batch_left r (batch_of (changes r.first r.last)) (run_batch runs asked r)
      (with_away path _ (batch_of (changes r.first r.last)) (other_way path history_path
      (or_second (bytes_eq path gate || bytes_eq path journal) (bytes_eq path history_path) free)) t)

  ran_left : (runs : List RunRow) (r : Ran) → ended meanings files asked ≡ ran r → IsLeft (left_by_run runs files asked r)
  unfolding ended
  ran_left runs r e =
      let first = opening meanings.read files in
      let came = of_ended r meanings.read asked.cycles (refusals meanings.read files) first
      (plan_in meanings files asked.recipe) e in
      let plan = came.0 in
      let opens : r.first ≡ first = came.1.1.0 in
      let events = came.1.1.1.0 in
      let comes : reached first [] (run meanings.read plan asked.cycles first).stages ≡ end r.last events =
      came.1.1.1.1 in
      let k = opening_order meanings.read files in
      let l = last_order meanings.read plan asked.cycles first r.last events k comes in
      elim (run_touches path meanings.read plan asked.cycles first r.last events comes) [
        | inl same ↦ inl (same_left runs r (subst AreInOrder (sym opens) k) l (ap (at_path path) opens ∙ sym same))
        | inr touched ↦ inr (plan, (came.1.0, touched))
      ]

  by_limit : (l : Option Limit) (a : Answer) → IsLeft a → IsLeft (within l files a)
  by_limit (Some l) a h = inl refl
  by_limit None a h = h

  by_runs : (h : History) (over : List RunRow → Answer) → ((runs : List RunRow) → IsLeft (over runs))
      → IsLeft (by_history h files over)
  by_runs (rows runs) over h = h runs
  by_runs (no_history at) over h = inl refl

  by_ends : (ends : Ends) (answered : Ran → Answer) → ((r : Ran) → ends ≡ ran r → IsLeft (answered r))
      → IsLeft (by_end files answered ends)
  by_ends (ran r) answered h = h r refl
  by_ends (fault f) answered h = inl refl
  by_ends (past l) answered h = inl refl

  run_left : IsLeft (run_answer meanings asked files)
  unfolding run_answer
  run_left =
      by_limit (limit_of files files)
      (by_history (meanings.history (history_bytes files)) files
      (λ runs. by_end files (left_by_run runs files asked) (ended meanings files asked)))
      (by_runs (meanings.history (history_bytes files))
      (λ runs. by_end files (left_by_run runs files asked) (ended meanings files asked))
      (λ runs. by_ends (ended meanings files asked) (left_by_run runs files asked) (ran_left runs)))

module _ (meanings : Meanings) (asked : Asked) (files : Files) where
  by_journal : (opened : Journal)
      → RunLeavesTheUntouched meanings asked (recovered opened files)
      (over_recovered opened files (run_answer meanings asked)).left
  unfolding RunLeavesTheUntouched recovered
  by_journal closed = λ path free. run_left meanings asked files path free
  by_journal (pending cs) = λ path free. run_left meanings asked (recovered (pending cs) files) path free
  by_journal (damaged at) = λ path free. inl refl

  pub left_alone : RunLeavesTheUntouched meanings asked (recovered (meanings.journal files) files)
      (answer meanings files (apply asked)).left
  unfolding answer
  left_alone = by_journal (meanings.journal files)
