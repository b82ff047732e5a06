-- What the first bytes of gate and journal say.
use Rattle.std.proofs.Common.{◌≡◌, ◌≤◌, ◌<◌, ℕ, List, [], ◌∷◌, ◌++◌, length, Option, None, Some, unwrap_or}
use Rattle.std.proofs.Common.{Result, Ok, Err, IfOk, ap, refl, subst, sym, ◌∙◌, arith, length-append}
use Rattle.std.specs.Option.{option_map}
use Rattle.rw_host.specs.FileLaws.{all_bytes, length-first_bytes}
use Rattle.std.specs.FinMap as map
use Rattle.rw_host.specs.Files.{Files, first_bytes}
use Rattle.journal_text.specs.Changes.{Change, changes_of, journal}
use Rattle.journal_text.specs.Reading.{HasNoReading, IsPlace, Reads}
use Rattle.journal_text.specs.Text.{body_text, digest_line, entries_text, entry_text, entry_with, head_text}
use Rattle.journal_text.specs.Text.{journal_text}
use Rattle.journal_text.specs.declared.batch.Entry.{Entry}
use Rattle.run_journal.specs.Standing.{is_one, journal_bytes}
use Rattle.run_journal.proofs.Committing.{length-changes_of}

-- two bytes are enough for the gate
pub one_of_front : (o : Option (List ℕ)) → is_one (option_map (first_bytes 2) o) ≡ is_one o
unfolding first_bytes
one_of_front None = refl
one_of_front (Some []) = refl
one_of_front (Some (a ∷ [])) = refl
one_of_front (Some (a ∷ b ∷ rest)) = refl

-- a front that reads as a journal and isn't cut is the whole
pub front_reads : (most : ℕ) (bytes : List ℕ) (changes : List Change) → 1073741824 < most
    → Reads (first_bytes most bytes) changes → Reads bytes changes
front_reads most bytes changes lt reads =
    subst (λ bytes. Reads bytes changes)
    (all_bytes most bytes (omega (arith, reads.size, length-first_bytes most bytes))) reads

pub front_unread : (most : ℕ) (bytes : List ℕ) → 1073741824 ≤ most → HasNoReading (first_bytes most bytes)
    → HasNoReading bytes
front_unread most bytes le unread = λ changes reads.
    unread changes
    (subst (λ bytes. Reads bytes changes) (sym (all_bytes most bytes (omega (arith, reads.size)))) reads)

-- the place of a fault in a front that is longer than a journal may be is that in the whole
pub front_place : (most : ℕ) (bytes : List ℕ) (n : ℕ) → 1073741824 < most → IsPlace (first_bytes most bytes) n
    → IsPlace bytes n
front_place most bytes n lt p = record {
  too_long = λ long. p.too_long (omega (arith, lt, long, length-first_bytes most bytes));
  digest = λ m le. (subst (λ b. IsPlace b n) (all_bytes most bytes (omega (arith, lt, le))) p).digest m le;
  longest = λ le. (subst (λ b. IsPlace b n) (all_bytes most bytes (omega (arith, lt, le))) p).longest le;
}

-- the bytes that were found, an absent file has none
front_found : (most : ℕ) (found o : Option (List ℕ)) → found ≡ option_map (first_bytes most) o
    → unwrap_or found [] ≡ first_bytes most (unwrap_or o [])
front_found most found None e = ap (λ f. unwrap_or f []) e ∙ sym (all_bytes most [] (omega arith))
front_found most found (Some bytes) e = ap (λ f. unwrap_or f []) e

pub journal_found : (most : ℕ) (files : Files) (path : List ℕ) (found : Option (List ℕ))
    → found ≡ option_map (first_bytes most) (map.get files path) → path ≡ journal
    → unwrap_or found [] ≡ first_bytes most (journal_bytes files)
journal_found most files path found e is =
    front_found most found (map.get files journal)
    (e ∙ ap (λ path. option_map (first_bytes most) (map.get files path)) is)

-- a journal has more bytes than entries
entry_long : (path : List ℕ) (bytes : Option (List ℕ)) → 1 ≤ length (entry_with path bytes)
entry_long path None = omega arith
entry_long path (Some bytes) = omega arith

entries_long : (changes : List Change) → length changes ≤ length (entries_text changes)
entries_long [] = omega arith
entries_long (change ∷ changes) =
    omega (
      arith,
      entry_long change.0 change.1,
      entries_long changes,
      length-append (entry_text change) (entries_text changes),
    )

part_long : (n : ℕ) (head entries end : List ℕ) → n ≤ length entries → n ≤ length ((head ++ entries) ++ end)
part_long n head entries end le = omega (arith, le, length-append (head ++ entries) end, length-append head entries)

journal_long : (changes : List Change) → length changes ≤ length (journal_text changes)
unfolding journal_text
journal_long changes =
    part_long (length changes) (head_text (length changes)) (entries_text changes) (digest_line (body_text changes))
    (entries_long changes)

pub reads_short : (bytes : List ℕ) (entries : List Entry) → Reads bytes (changes_of entries)
    → length entries ≤ 1073741824
reads_short bytes entries reads =
    omega (arith, journal_long (changes_of entries), ap length reads.whole, reads.size, length-changes_of entries)

-- what holds of each answer holds of this one
pub if_ok_map : {T E : Type 0} (r : Result T E) (P Q : T → Type 0) → ((x : T) → P x → Q x) → IfOk r P → IfOk r Q
if_ok_map (Ok x) P Q map holds = map x holds
if_ok_map (Err e) P Q map holds = holds
