-- How long the text of a journal is.
use Rattle.std.proofs.Common.{◌≡◌, ℕ, ◌+◌, ◌<◌, List, [], ◌∷◌, length, get_or, drop, Some, None, refl, sym, ap, ◌∙◌, arith, length-append}
use Rattle.std.proofs.lemmas.List.{drop_more}
use Rattle.hex.specs.Hex.{lower_digits}
use Rattle.hex.proofs.HexLemmas.{length-encode_with}
use Rattle.sha2.specs.Sha256.{sha256}
use Rattle.sha2.proofs.Facts256.{length-sha256}
use Rattle.journal_text.specs.declared.batch.Entry.{Entry}
use Rattle.journal_text.specs.Changes.{Change, changes_of}
use Rattle.journal_text.specs.Numerals.{numeral}
use Rattle.journal_text.specs.Text.{entry_with, entries_text, head_text, body_text, digest_line, journal_text}

pub length-put : (path bytes : List ℕ) → length (entry_with path (Some bytes)) ≡ length path + length bytes + length (numeral (length bytes)) + 7
length-put path bytes = simp length-append (omega arith)

pub length-del : (path : List ℕ) → length (entry_with path None) ≡ length path + 5
length-del path = simp length-append (omega arith)

pub length-digest_line : (body : List ℕ) → length (digest_line body) ≡ 72
length-digest_line body = let e = length-encode_with lower_digits (sha256 body) in let f = length-sha256 body in simp length-append (omega arith)

pub length-body_text : (changes : List Change) → length (body_text changes) ≡ length (numeral (length changes)) + length (entries_text changes) + 19
unfolding head_text
length-body_text changes = simp length-append (omega arith)

pub length-journal_text : (changes : List Change) → length (journal_text changes) ≡ length (entries_text changes) + (length (numeral (length changes)) + 91)
unfolding journal_text
length-journal_text changes =
    let e = length-body_text changes in
    let f = length-digest_line (body_text changes) in
    length-append (body_text changes) (digest_line (body_text changes)) ∙ omega arith

pub length-changes_of : (entries : List Entry) → length (changes_of entries) ≡ length entries
length-changes_of [] = refl
length-changes_of (entry ∷ entries) = let e = length-changes_of entries in omega arith

-- an element of the entries, and those behind it
pub next_entry : (entries : List Entry) (i : ℕ) (entry : Entry) → i < length entries → entry ≡ get_or entries i entry → drop i entries ≡ entry ∷ drop (i + 1) entries
next_entry entries i entry lt e = drop_more entries i entry lt ∙ ap (λ x. x ∷ drop (i + 1) entries) (sym e)
