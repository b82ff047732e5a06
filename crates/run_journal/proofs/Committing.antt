-- The parts of a commit and of a recovery, one after another.
use Rattle.std.proofs.Common.{◌≡◌, ◌⊎◌, inl, inr, ℕ, suc, false, true, Option, Some, None, List, [], ◌∷◌, length}
use Rattle.std.proofs.Common.{◌≤◌, arith, Result, Ok, Err, IfOk, OnOk, ap, refl, subst, sym, ◌∙◌, if◌then◌else◌}
use Rattle.std.proofs.lemmas.Bool.{both_ways}
use Rattle.std.proofs.lemmas.Slice.Eq.{bytes_eq-Decides}
use Rattle.std.specs.FinMap as map
use Rattle.rw_host.specs.Crash.{Goes, Images, Leaves, Same}
use Rattle.rw_host.specs.CrashLaws.{either, leaves_at_start, leaves_join, leaves_then, leaves_weaker}
use Rattle.rw_host.specs.FileLaws.{same_elsewhere-remove}
use Rattle.rw_host.specs.Files.{Files, SameElsewhere}
use Rattle.journal_text.specs.Changes.{Change, IsBatch, changes_of, gate, journal}
use Rattle.journal_text.specs.Reading.{Reads}
use Rattle.journal_text.specs.Text.{journal_text}
use Rattle.journal_text.specs.declared.batch.Entry.{Entry}
use Rattle.run_journal.specs.Standing.{IsRead, IsRecovered, OldOrNew, StandAlike, applied, bare, finished}
use Rattle.run_journal.specs.Standing.{SameBut, is_one, is_open, touches}
use Rattle.run_journal.specs.Steps.{Unfinished}
use Rattle.run_journal.proofs.Images.{IsArmed, armed, entries_torn, gate_removed, gate_torn, journal_torn}
use Rattle.run_journal.proofs.Images.{same_but_step, with_gate, with_journal}

pub length-changes_of : (entries : List Entry) → length (changes_of entries) ≡ length entries
length-changes_of [] = refl
length-changes_of (entry ∷ entries) = ap suc (length-changes_of entries)

one_only : (o : Option (List ℕ)) → is_one o ≡ true → o ≡ Some (49 ∷ [])
one_only None e = absurd (both_ways false refl e)
one_only (Some bytes) e = ap Some ((bytes_eq-Decides bytes (49 ∷ [])).0 e)

-- what was written at a path, where path and bytes are known by other names
pub written : (start now : Files) (p q bytes text : List ℕ) → now ≡ map.insert start p bytes → p ≡ q → bytes ≡ text
    → now ≡ map.insert start q text
written start now p q bytes text e path same =
    e ∙ (ap (λ p. map.insert start p bytes) path ∙ ap (map.insert start q) same)

pub sealed_reads : (changes : List Change) (text : List ℕ) → IsBatch changes → text ≡ journal_text changes
    → length text ≤ 1073741824 → Reads (journal_text changes) changes
sealed_reads changes text batch same size =
    record { batch = batch; whole = refl; size = omega (arith, size, ap length same) }

last_part : (changes : List Change) (start c : Files) → Reads (journal_text changes) changes
    → Unfinished changes (with_gate changes start) c → OldOrNew changes start c
last_part changes start c reading un = either
    (λ same. inr (entries_torn changes start _ c (armed changes start reading) same))
    (λ same. inr (gate_removed changes start _ c (armed changes start reading) same)) un

read_is_armed : (changes : List Change) (files : Files) → IsRead files changes → IsArmed changes files files
read_is_armed changes files read = record {
  gate_is = one_only (map.get files gate) read.opened;
  reading = read.reading;
  others = λ q ng nj. refl;
}

finish_part : (changes : List Change) (files c : Files) → IsRead files changes → Unfinished changes files c
    → StandAlike files c
finish_part changes files c read un =
    let is = read_is_armed changes files read in (
      bare (applied changes files),
      (
        inr (changes, record { read = read; made = refl }),
        either (λ same. entries_torn changes files files c is same)
            (λ same. gate_removed changes files files c is same) un,
      ),
    )

-- a recovery that is done
settled_alike : (changes : List Change) (files now : Files) → IsRead files changes
    → now ≡ map.remove (applied changes files) gate → StandAlike files now
settled_alike changes files now read made =
    finish_part changes files now read
    (inr (subst (SameElsewhere gate (applied changes files)) (sym made)
    (same_elsewhere-remove gate (applied changes files))))

pub closed_alike : (files now : Files) → is_open files ≡ false → now ≡ files → StandAlike files now
closed_alike files now closed same =
    subst (StandAlike files) (sym same)
    (bare files, (inl (record { closed = closed; same = refl }), inl (record { closed = closed; same = refl })))

recovered : (changes : List Change) (files now : Files) → IsRead files changes
    → now ≡ map.remove (applied changes files) gate → now ≡ finished changes files
recovered changes files now read made =
    made ∙ sym (ap (λ b. if b then map.remove (applied changes files) gate else files) read.opened)

pub settled_number : {E : Type 0} (r : Result ℕ E) (changes : List Change) (files now : Files)
    → IsRead files changes → IfOk r (λ count. count ≡ length changes)
    → OnOk r (now ≡ map.remove (applied changes files) gate)
    → IfOk r (λ count. (changes : List Change) × IsRecovered files now count changes)
settled_number (Ok count) changes files now read number made =
    (changes, record { called = inr read; made = recovered changes files now read made; number = number })
settled_number (Err e) changes files now read number made = number

pub settled_stands : {E : Type 0} (r : Result ℕ E) (changes : List Change) (files now : Files) → IsRead files changes
    → OnOk r (now ≡ map.remove (applied changes files) gate) → OnOk r (StandAlike files now)
settled_stands (Ok count) changes files now read made = settled_alike changes files now read made
settled_stands (Err e) changes files now read made = made

pub untouched : (files now : Files) → is_open files ≡ false → now ≡ files → now ≡ finished [] files
untouched files now closed same =
    same ∙ sym (ap (λ b. if b then map.remove files gate else files) closed)

module _ {S : Type 0} (moment : S → ℕ) (left_since : S → ℕ → Images) (image : S → Images) (files : S → Files) where
  -- while the journal is written
  pub journal_leaves : (changes : List Change) (start : Files) (a b : S) (p : List ℕ) → is_open start ≡ false
      → p ≡ journal → files a ≡ start
      → Leaves moment left_since image a b (SameElsewhere p (files a)) (SameElsewhere p (files a))
      → Leaves moment left_since image a b (OldOrNew changes start) (OldOrNew changes start)
  journal_leaves changes start a b p closed path same leaves =
      let holds : (e : Files) → SameElsewhere p (files a) e → OldOrNew changes start e
      = λ e is. inl (journal_torn start e closed
      (subst (λ files. SameElsewhere journal files e) same (subst (λ p. SameElsewhere p (files a) e) path is))) in
      leaves_weaker moment left_since image _ _ (OldOrNew changes start) (OldOrNew changes start) a b leaves holds holds

  -- while the gate is written
  pub gate_leaves : (changes : List Change) (start : Files) (a b : S) (p : List ℕ)
      → Reads (journal_text changes) changes → p ≡ gate → files a ≡ with_journal changes start
      → Leaves moment left_since image a b (SameElsewhere p (files a)) (SameElsewhere p (files a))
      → Leaves moment left_since image a b (OldOrNew changes start) (OldOrNew changes start)
  gate_leaves changes start a b p reading path same leaves =
      let holds : (e : Files) → SameElsewhere p (files a) e → OldOrNew changes start e
      = λ e is. gate_torn changes start e reading
      (subst (λ files. SameElsewhere gate files e) same (subst (λ p. SameElsewhere p (files a) e) path is)) in
      leaves_weaker moment left_since image _ _ (OldOrNew changes start) (OldOrNew changes start) a b leaves holds holds

  -- while the entries are written and the gate is removed
  pub last_leaves : (changes same_changes : List Change) (start : Files) (a b : S)
      → Reads (journal_text changes) changes → same_changes ≡ changes → files a ≡ with_gate changes start
      → Leaves moment left_since image a b (Unfinished same_changes (files a)) (Unfinished same_changes (files a))
      → Leaves moment left_since image a b (OldOrNew changes start) (OldOrNew changes start)
  last_leaves changes same_changes start a b reading known same leaves =
      let holds : (e : Files) → Unfinished same_changes (files a) e → OldOrNew changes start e
      = λ e is. last_part changes start e reading
      (subst (λ files. Unfinished changes files e) same (subst (λ cs. Unfinished cs (files a) e) known is)) in
      leaves_weaker moment left_since image _ _ (OldOrNew changes start) (OldOrNew changes start) a b leaves holds holds

  -- while a recovery goes on, behind calls that change nothing
  pub settle_leaves : (changes : List Change) (a b c : S) → IsRead (files a) changes → files b ≡ files a
      → Leaves moment left_since image a b (image a) (image a)
      → Leaves moment left_since image b c (Unfinished changes (files b)) (Unfinished changes (files b))
      → Leaves moment left_since image a c (λ e. image a e ⊎ StandAlike (files a) e)
      (λ e. image a e ⊎ StandAlike (files a) e)
  settle_leaves changes a b c read same before leaves =
      let P : Images = λ e. image a e ⊎ StandAlike (files a) e in
      let holds : (e : Files) → Unfinished changes (files b) e → P e
      = λ e un. inr (finish_part changes (files a) e read (subst (λ files. Unfinished changes files e) same un)) in
      let first : Leaves moment left_since image a b P P
      = leaves_weaker moment left_since image _ _ P P a b before (λ e is. inl is) (λ e is. inl is) in
      leaves_join moment left_since image P P P a b c first
      (leaves_weaker moment left_since image _ _ P P b c leaves holds holds)

  -- a recovery behind calls that change nothing
  pub recover_leaves : (a b c : S) → files b ≡ files a → Leaves moment left_since image a b (image a) (image a)
      → Leaves moment left_since image b c (λ e. image b e ⊎ StandAlike (files b) e)
      (λ e. image b e ⊎ StandAlike (files b) e)
      → Leaves moment left_since image a c (λ e. image a e ⊎ StandAlike (files a) e)
      (λ e. image a e ⊎ StandAlike (files a) e)
  recover_leaves a b c same before leaves =
      let P : Images = λ e. image a e ⊎ StandAlike (files a) e in
      let holds : (e : Files) → image b e ⊎ StandAlike (files b) e → P e
      = λ e. either (λ is. inl (before.now e is)) (λ alike. inr (subst (λ files. StandAlike files e) same alike)) in
      let first : Leaves moment left_since image a b P P
      = leaves_weaker moment left_since image _ _ P P a b before (λ e is. inl is) (λ e is. inl is) in
      leaves_join moment left_since image P P P a b c first
      (leaves_weaker moment left_since image _ _ P P b c leaves holds holds)

  -- what reads alone leave
  pub images_weaker : (a b : S) → Leaves moment left_since image a b (image a) (image a)
      → Leaves moment left_since image a b (λ e. image a e ⊎ StandAlike (files a) e)
      (λ e. image a e ⊎ StandAlike (files a) e)
  images_weaker a b before = leaves_weaker moment left_since image _ _ _ _ a b before (λ e is. inl is) (λ e is. inl is)

module _ {S : Type 0} (moment : S → ℕ) (left_since : S → ℕ → Images) (image : S → Images) where
  -- one more change is made
  pub entry_leaves : (changes : List Change) (start : Files) (p : List ℕ) (a b c : S) → touches changes p ≡ true
      → Leaves moment left_since image a b (SameBut changes start) (SameBut changes start)
      → Goes (moment b) (moment c) (left_since b) (left_since c) (image b) (image c) (SameElsewhere p)
      → Leaves moment left_since image a c (SameBut changes start) (SameBut changes start)
  entry_leaves changes start p a b c touched before goes =
      leaves_then moment left_since image (SameBut changes start) (SameElsewhere p) a b c before goes
      (λ d e. same_but_step changes start d e p touched)

  pub images_at_start : (a : S) → ((c : Files) → left_since a (moment a) c → image a c)
      → Leaves moment left_since image a a (image a) (image a)
  images_at_start a only_now = leaves_at_start moment left_since image (image a) a only_now (λ c is. is)

  -- one more call that changes nothing
  pub images_then : (a b c : S) → Leaves moment left_since image a b (image a) (image a)
      → Goes (moment b) (moment c) (left_since b) (left_since c) (image b) (image c) Same
      → Leaves moment left_since image a c (image a) (image a)
  images_then a b c before goes =
      leaves_then moment left_since image (image a) Same a b c before goes (λ d e same is. subst (image a) (sym same) is)

  pub images_join : (a b c : S) → Leaves moment left_since image a b (image a) (image a)
      → Leaves moment left_since image b c (image b) (image b) → Leaves moment left_since image a c (image a) (image a)
  images_join a b c one two =
      leaves_join moment left_since image (image a) (image a) (image a) a b c one
      (leaves_weaker moment left_since image _ _ (image a) (image a) b c two one.now one.now)

pub ruleset lengths = (length-changes_of)
