-- For what the images of a commit stand.
use Rattle.std.proofs.Common.{◌≡◌, ◌≢◌, ◌⊎◌, inl, inr, ℕ, Bool, true, false, cond, ◌||◌, List, [], ◌∷◌}
use Rattle.std.proofs.Common.{Option, None, Some, unwrap_or, ap, refl, subst, sym, ◌∙◌}
use Rattle.std.proofs.lemmas.Bool.{both_ways}
use Rattle.std.specs.Ordering.{eq_by_cmp}
use Rattle.std.specs.FinMap as map
use Rattle.rw_host.specs.Files.{Files, SameElsewhere}
use Rattle.journal_text.specs.Changes.{AllFree, Change, IsBatch, change_of, changes_of, gate, journal}
use Rattle.journal_text.specs.Reading.{Reads}
use Rattle.journal_text.specs.Text.{journal_text}
use Rattle.journal_text.specs.declared.batch.Entry.{Entry}
use Rattle.run_journal.specs.Standing.{SameBut, StandsFor, applied, bare, is_one, is_open}
use Rattle.run_journal.specs.Standing.{journal_bytes, put, touches}
use Rattle.run_journal.proofs.Order.{by_bytes, total, exact, ties_decide}

abbrev pub is_at : List ℕ → List ℕ → Bool
is_at q p = eq_by_cmp by_bytes q p

pub other_paths : is_at gate journal ≡ false × is_at journal gate ≡ false
unfolding gate journal
other_paths = (refl, refl)

pub at_itself : (p : List ℕ) → is_at p p ≡ true
at_itself p = (ties_decide p p).1 refl

off_case : (p q : List ℕ) → p ≢ q → (b : Bool) → is_at q p ≡ b → is_at q p ≡ false
off_case p q differ false e = e
off_case p q differ true e = absurd (differ (sym ((ties_decide q p).0 e)))

off_itself : (p q : List ℕ) → p ≢ q → is_at q p ≡ false
off_itself p q differ = off_case p q differ (is_at q p) refl

cond_same : {X : Type 0} (b : Bool) (x o p : X) → (b ≡ false → o ≡ p) → cond b x o ≡ cond b x p
cond_same true x o p h = refl
cond_same false x o p h = h refl

neither : (a b : Bool) → a ≡ false → b ≡ false → (a || b) ≡ false
neither true b e f = e
neither false b e f = f

-- a batch changes neither gate nor journal
free_gate : (changes : List Change) → AllFree changes → touches changes gate ≡ false
free_gate [] free = refl
free_gate (change ∷ changes) free =
    neither (is_at gate change.0) (touches changes gate) (off_itself change.0 gate free.0.no_gate) (free_gate changes free.1)

free_journal : (changes : List Change) → AllFree changes → touches changes journal ≡ false
free_journal [] free = refl
free_journal (change ∷ changes) free =
    neither (is_at journal change.0) (touches changes journal) (off_itself change.0 journal free.0.no_journal)
    (free_journal changes free.1)

pub no_gate : (changes : List Change) → IsBatch changes → touches changes gate ≡ false
no_gate changes batch = free_gate changes batch.free

pub no_journal : (changes : List Change) → IsBatch changes → touches changes journal ≡ false
no_journal changes batch = free_journal changes batch.free

pub off_path : (p : List ℕ) (c : Files) (q : List ℕ) → is_at q p ≡ false → map.get (map.remove c p) q ≡ map.get c q
off_path p c q off = map.get-remove total c p q ∙ ap (λ b. cond b None (map.get c q)) off

pub elsewhere : (p : List ℕ) (old new : Files) (q : List ℕ) → SameElsewhere p old new → is_at q p ≡ false
    → map.get new q ≡ map.get old q
elsewhere p old new q same off = sym (off_path p new q off) ∙ (ap (λ m. map.get m q) same ∙ off_path p old q off)

get_put : (c : Files) (p : List ℕ) (o : Option (List ℕ)) (q : List ℕ)
    → map.get (put c p o) q ≡ cond (is_at q p) o (map.get c q)
get_put c p None q = map.get-remove total c p q
get_put c p (Some b) q = map.get-insert total c p b q

-- what changes leave of a file at a path
abbrev overlay : List Change → List ℕ → Option (List ℕ) → Option (List ℕ)
overlay [] q o = o
overlay (e ∷ es) q o = overlay es q (cond (is_at q e.0) e.1 o)

get_applied : (es : List Change) (c : Files) (q : List ℕ) → map.get (applied es c) q ≡ overlay es q (map.get c q)
get_applied [] c q = refl
get_applied (e ∷ es) c q = get_applied es (put c e.0 e.1) q ∙ ap (overlay es q) (get_put c e.0 e.1 q)

overlay_same : (es : List Change) (q : List ℕ) (o p : Option (List ℕ)) → (touches es q ≡ false → o ≡ p)
    → overlay es q o ≡ overlay es q p
overlay_same [] q o p h = h refl
overlay_same (e ∷ es) q o p h =
    overlay_same es q _ _ (λ t. cond_same (is_at q e.0) e.1 o p (λ f. h (neither (is_at q e.0) (touches es q) f t)))

overlay_off : (es : List Change) (q : List ℕ) (o : Option (List ℕ)) → touches es q ≡ false → overlay es q o ≡ o
overlay_off [] q o e = refl
overlay_off (c ∷ es) q o e =
    overlay_off es q _ (behind (is_at q c.0) (touches es q) e)
    ∙ ap (λ b. cond b c.1 o) (first (is_at q c.0) (touches es q) e)
  where
    first : (a b : Bool) → (a || b) ≡ false → a ≡ false
    first true b e = e
    first false b e = refl

    behind : (a b : Bool) → (a || b) ≡ false → b ≡ false
    behind true b e = absurd (both_ways true e refl)
    behind false b e = e

pub applied_same : (es : List Change) (c d : Files) (q : List ℕ) → (touches es q ≡ false → map.get c q ≡ map.get d q)
    → map.get (applied es c) q ≡ map.get (applied es d) q
applied_same es c d q h = get_applied es c q ∙ (overlay_same es q _ _ h ∙ sym (get_applied es d q))

pub applied_off : (es : List Change) (c : Files) (q : List ℕ) → touches es q ≡ false
    → map.get (applied es c) q ≡ map.get c q
applied_off es c q off = get_applied es c q ∙ overlay_off es q _ off

get_bare : (c : Files) (q : List ℕ)
    → map.get (bare c) q ≡ cond (is_at q journal) None (cond (is_at q gate) None (map.get c q))
get_bare c q =
    map.get-remove total (map.remove c gate) journal q
    ∙ ap (cond (is_at q journal) None) (map.get-remove total c gate q)

-- bare files are equal where the files are, but at gate and journal
pub bare_same : (c d : Files)
    → ((q : List ℕ) → is_at q gate ≡ false → is_at q journal ≡ false → map.get c q ≡ map.get d q) → bare c ≡ bare d
bare_same c d h = map.same_map total exact _ _ (λ q.
    get_bare c q
    ∙ (cond_same (is_at q journal) None _ _ (λ nj. cond_same (is_at q gate) None _ _ (λ ng. h q ng nj))
    ∙ sym (get_bare d q)))

-- what reads give once journal and gate are written
pub record IsArmed (changes : List Change) (start armed : Files) : Type 0 where
  pub gate_is : map.get armed gate ≡ Some (49 ∷ [])
  pub reading : Reads (journal_bytes armed) changes
  pub others : (q : List ℕ) → is_at q gate ≡ false → is_at q journal ≡ false → map.get armed q ≡ map.get start q

get_at : (c : Files) (p bytes : List ℕ) → map.get (map.insert c p bytes) p ≡ Some bytes
get_at c p bytes = map.get-insert total c p bytes p ∙ ap (λ b. cond b (Some bytes) (map.get c p)) (at_itself p)

pub get_off : (c : Files) (p bytes q : List ℕ) → is_at q p ≡ false → map.get (map.insert c p bytes) q ≡ map.get c q
get_off c p bytes q off = map.get-insert total c p bytes q ∙ ap (λ b. cond b (Some bytes) (map.get c q)) off

abbrev pub with_journal : List Change → Files → Files
with_journal changes start = map.insert start journal (journal_text changes)

abbrev pub with_gate : List Change → Files → Files
with_gate changes start = map.insert (with_journal changes start) gate (49 ∷ [])

-- the journal reads as these changes where it holds the bytes of one that does
reads_alike : (changes : List Change) (o : Option (List ℕ)) (c : Files) → map.get c journal ≡ o
    → Reads (unwrap_or o []) changes → Reads (journal_bytes c) changes
reads_alike changes o c e reading = subst (λ o. Reads (unwrap_or o []) changes) (sym e) reading

pub armed : (changes : List Change) (start : Files) → Reads (journal_text changes) changes
    → IsArmed changes start (with_gate changes start)
armed changes start reading = record {
  gate_is = get_at (with_journal changes start) gate (49 ∷ []);
  reading = reads_alike changes (Some (journal_text changes)) (with_gate changes start)
      (get_off (with_journal changes start) gate (49 ∷ []) journal other_paths.1
      ∙ get_at start journal (journal_text changes)) reading;
  others = λ q ng nj.
      get_off (with_journal changes start) gate (49 ∷ []) q ng ∙ get_off start journal (journal_text changes) q nj;
}

-- while the journal is written
pub journal_torn : (start c : Files) → is_open start ≡ false → SameElsewhere journal start c → StandsFor c (bare start)
journal_torn start c closed same = inl (record {
  closed = ap is_one (elsewhere journal start c gate same other_paths.0) ∙ closed;
  same = bare_same start c (λ q ng nj. sym (elsewhere journal start c q same nj));
})

-- while the gate is written
gate_case : (changes : List Change) (start c : Files) → Reads (journal_text changes) changes
    → SameElsewhere gate (with_journal changes start) c → (b : Bool) → is_open c ≡ b
    → StandsFor c (bare start) ⊎ StandsFor c (bare (applied changes start))
gate_case changes start c reading same true e =
    let one = with_journal changes start in
    inr (inr (
      changes,
      record {
        read = record {
          opened = e;
          reading = reads_alike changes (Some (journal_text changes)) c
              (elsewhere gate one c journal same other_paths.1 ∙ get_at start journal (journal_text changes)) reading;
        };
        made = bare_same (applied changes start) (applied changes c) (λ q ng nj. applied_same changes start c q (λ off.
            sym (elsewhere gate one c q same ng ∙ get_off start journal (journal_text changes) q nj)));
      },
    ))
gate_case changes start c reading same false e =
    let one = with_journal changes start in
    inl (inl (record {
      closed = e;
      same = bare_same start c (λ q ng nj.
          sym (elsewhere gate one c q same ng ∙ get_off start journal (journal_text changes) q nj));
    }))

pub gate_torn : (changes : List Change) (start c : Files) → Reads (journal_text changes) changes
    → SameElsewhere gate (with_journal changes start) c
    → StandsFor c (bare start) ⊎ StandsFor c (bare (applied changes start))
gate_torn changes start c reading same = gate_case changes start c reading same (is_open c) refl

-- while the entries are written
pub entries_torn : (changes : List Change) (start full c : Files) → IsArmed changes start full → SameBut changes full c
    → StandsFor c (bare (applied changes start))
entries_torn changes start full c is same = inr (
  changes,
  record {
    read = record {
      opened = ap is_one (same gate (no_gate changes is.reading.batch) ∙ is.gate_is);
      reading = reads_alike changes (map.get full journal) c (same journal (no_journal changes is.reading.batch)) is.reading;
    };
    made = bare_same (applied changes start) (applied changes c) (λ q ng nj. applied_same changes start c q (λ off.
        sym (same q off ∙ is.others q ng nj)));
  },
)

-- while the gate is removed
removed_case : (changes : List Change) (start full c : Files) → IsArmed changes start full
    → SameElsewhere gate (applied changes full) c → (b : Bool) → is_open c ≡ b
    → StandsFor c (bare (applied changes start))
removed_case changes start full c is same true e = inr (
  changes,
  record {
    read = record {
      opened = e;
      reading = reads_alike changes (map.get full journal) c
          (elsewhere gate (applied changes full) c journal same other_paths.1
          ∙ applied_off changes full journal (no_journal changes is.reading.batch)) is.reading;
    };
    made = bare_same (applied changes start) (applied changes c) (λ q ng nj. applied_same changes start c q (λ off.
        sym (elsewhere gate (applied changes full) c q same ng ∙ (applied_off changes full q off ∙ is.others q ng nj))));
  },
)
removed_case changes start full c is same false e = inl (record {
  closed = e;
  same = bare_same (applied changes start) c (λ q ng nj.
      applied_same changes start full q (λ off. sym (is.others q ng nj))
      ∙ sym (elsewhere gate (applied changes full) c q same ng));
})

pub gate_removed : (changes : List Change) (start full c : Files) → IsArmed changes start full
    → SameElsewhere gate (applied changes full) c → StandsFor c (bare (applied changes start))
gate_removed changes start full c is same = removed_case changes start full c is same (is_open c) refl

-- ---- one entry after another
-- a step at a path of the changes keeps the others
pub same_but_step : (changes : List Change) (old d e : Files) (p : List ℕ) → touches changes p ≡ true
    → SameElsewhere p d e → SameBut changes old d → SameBut changes old e
same_but_step changes old d e p among same kept q off =
    elsewhere p d e q same (differs (is_at q p) refl) ∙ kept q off
  where
    differs : (b : Bool) → is_at q p ≡ b → is_at q p ≡ false
    differs false eq = eq
    differs true eq =
        absurd (both_ways (touches changes q) off (ap (touches changes) ((ties_decide q p).0 eq) ∙ among))

first_true : (a b : Bool) → a ≡ true → (a || b) ≡ true
first_true true b e = refl
first_true false b e = absurd (both_ways false refl e)

rest_true : (a b : Bool) → b ≡ true → (a || b) ≡ true
rest_true true b e = refl
rest_true false b e = e

touches_first : (c : Change) (cs : List Change) → touches (c ∷ cs) c.0 ≡ true
touches_first c cs = first_true (is_at c.0 c.0) (touches cs c.0) (at_itself c.0)

touches_rest : (c : Change) (cs : List Change) (p : List ℕ) → touches cs p ≡ true → touches (c ∷ cs) p ≡ true
touches_rest c cs p e = rest_true (is_at p c.0) (touches cs p) e

-- the path of the entry that comes next
pub entry_touches : (entries left : List Entry) (entry : Entry) → entries ≡ entry ∷ left
    → touches (changes_of entries) entry.path ≡ true
entry_touches entries left entry cut =
    ap (λ es. touches (changes_of es) entry.path) cut ∙ touches_first (change_of entry) (changes_of left)

pub left_touches : (entries left : List Entry) (entry : Entry) (p : List ℕ) → entries ≡ entry ∷ left
    → touches (changes_of left) p ≡ true → touches (changes_of entries) p ≡ true
left_touches entries left entry p cut is =
    ap (λ es. touches (changes_of es) p) cut ∙ touches_rest (change_of entry) (changes_of left) p is

pub left_applied : (entries left : List Entry) (entry : Entry) (files next : Files) → entries ≡ entry ∷ left
    → next ≡ put files (change_of entry).0 (change_of entry).1
    → applied (changes_of left) next ≡ applied (changes_of entries) files
left_applied entries left entry files next cut made =
    ap (applied (changes_of left)) made ∙ sym (ap (λ es. applied (changes_of es) files) cut)
