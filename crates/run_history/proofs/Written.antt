-- What is written reads back.
use Rattle.std.specs.Prelude.{length, flat_map, map}
use Rattle.std.proofs.Common.{◌≡◌, ℕ, zero, suc, ◌+◌, ◌<◌, ◌≤◌, ◌∙◌, List, [], ◌∷◌, ◌++◌, decimal, arith, sym, refl}
use Rattle.std.proofs.Common.{ap, get_or, length-append, take}
use Rattle.std.proofs.lemmas.Grind.{flat_map-append}
use Rattle.std.proofs.lemmas.List.{append-nil, map-append, take_more}
use Rattle.std.proofs.lemmas.Fmt.{decimal_digit}
use Rattle.csv.specs.Machine.{next_record}
use Rattle.csv.specs.Reading.{default_config, records_from, strip_bom}
use Rattle.csv.specs.Writing.{default_writer, field_text, row_body}
use Rattle.csv.specs.declared.parser.State.TheVariants as st
use Rattle.csv.proofs.RoundTrip.{read-write}
use Rattle.run_history.specs.History.{AreNumbered, AreRecordsOf, IsHistory, IsRecordOf, most_bytes, records_of}
use Rattle.run_history.specs.History.{row_line, written}
use Rattle.run_history.specs.declared.row.RunRow.{RunRow}
use Rattle.run_history.proofs.Rows.{records_more}

-- the records of what was written
records_written : (n : ℕ) (rows : List RunRow) → length rows < n
    → records_from default_config n st.StartRecord (flat_map row_line rows) ≡ map written rows
unfolding records_from next_record
records_written zero rows few = absurd (omega arith)
records_written (suc n) [] few = refl
records_written (suc n) (row ∷ rows) few =
    rw (read-write (written row) (flat_map row_line rows)) (ap (λ (more : List (List (List ℕ))). written row ∷ more) (records_written n rows (omega arith)))

-- a text that starts with another byte has no byte order mark
no_mark : (rest : List ℕ) → strip_bom (49 ∷ rest) ≡ 49 ∷ rest
unfolding strip_bom
no_mark [] = refl
no_mark (a ∷ []) = refl
no_mark (a ∷ b ∷ rest) = refl

-- a first field of one digit
starts_plain : (field more tail rest : List ℕ) → field ≡ 49 ∷ []
    → strip_bom (((field_text default_writer field ++ more) ++ tail) ++ rest) ≡ ((field_text default_writer field ++ more) ++ tail) ++ rest
starts_plain field more tail rest one = rw one (no_mark ((more ++ tail) ++ rest))

strip_written : (rows : List RunRow) → AreNumbered 1 rows → strip_bom (flat_map row_line rows) ≡ flat_map row_line rows
unfolding AreNumbered strip_bom
strip_written [] h = refl
strip_written (row ∷ rows) h =
    starts_plain (decimal row.run) _ _ (flat_map row_line rows) (ap decimal h.0 ∙ decimal_digit 1 (omega arith))

last_byte : (body blank : List ℕ) → 1 ≤ length (body ++ (blank ++ (10 ∷ [])))
last_byte body blank =
    let parts = length-append body (blank ++ (10 ∷ [])) in
    let more = length-append blank (10 ∷ []) in
    omega arith

-- each line has a byte
line_long : (row : RunRow) → 1 ≤ length (row_line row)
line_long row = last_byte (row_body default_writer (written row)) _

lines_long : (rows : List RunRow) → length rows ≤ length (flat_map row_line rows)
lines_long [] = omega arith
lines_long (row ∷ rows) =
    let more = lines_long rows in
    let one = line_long row in
    let both : length (row_line row ++ flat_map row_line rows) ≡ length (row_line row) + length (flat_map row_line rows) = length-append (row_line row) (flat_map row_line rows) in
    omega arith

-- the bytes of runs in form are a history of them
pub reads_back : (rows : List RunRow) (bytes : List ℕ) → bytes ≡ flat_map row_line rows → AreNumbered 1 rows
    → AreRecordsOf rows (map written rows) → length bytes ≤ most_bytes
    → IsHistory bytes rows
reads_back rows bytes is numbered in_form short =
    let long = lines_long rows in
    let all : records_of bytes ≡ map written rows = rw (is, strip_written rows numbered) (records_written (length (flat_map row_line rows) + 1) rows (omega arith)) in
    record {
      short = short;
      numbered = numbered;
      records = rw all in_form;
    }

-- one more line
pub line_more : (rows : List RunRow) (row : RunRow) (old new : List ℕ) → old ≡ flat_map row_line rows
    → new ≡ old ++ row_line row → new ≡ flat_map row_line (rows ++ (row ∷ []))
line_more rows row old new so now =
    let parts = flat_map-append row_line rows (row ∷ []) in
    let one : flat_map row_line (row ∷ []) ≡ row_line row = append-nil (row_line row) in
    now ∙ ap (λ (text : List ℕ). text ++ row_line row) so ∙ sym (parts ∙ ap (λ (text : List ℕ). flat_map row_line rows ++ text) one)

pub form_more : (rows : List RunRow) (row : RunRow) → AreRecordsOf rows (map written rows)
    → IsRecordOf row (written row)
    → AreRecordsOf (rows ++ (row ∷ [])) (map written (rows ++ (row ∷ [])))
form_more rows row in_form is = rw (map-append written rows (row ∷ [])) (records_more rows (map written rows) row (written row) in_form is)

-- the first rows, and one more of them
pub first_more : (rows : List RunRow) (i : ℕ) (row : RunRow) → i < length rows → row ≡ get_or rows i row
    → take (i + 1) rows ≡ take i rows ++ (row ∷ [])
first_more rows i row within is = take_more rows i row within ∙ ap (λ (last : RunRow). take i rows ++ (last ∷ [])) (sym is)
