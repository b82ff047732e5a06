-- The history of runs: a CSV file with a record for each run, and no header.
use Rattle.std.specs.Prelude.{◌≡◌, ℕ, ◌+◌, ◌^◌, ◌<◌, ◌≤◌, ⊤, List, [], ◌∷◌, length, decimal, Ok}
use Rattle.hex.specs.Hex.{decode_sized, encode_lower}
use Rattle.csv.specs.Reading.{default_config, records, strip_bom}
use Rattle.csv.specs.Writing.{default_writer, row_text}
use Rattle.run_history.specs.declared.row.RunRow.{RunRow}

-- the most bytes that a history may have
unfoldable pub most_bytes : ℕ
most_bytes = 1073741824

-- the records of a file, each a list of fields, read without a header and with any number of fields
abbrev pub records_of : List ℕ → List (List (List ℕ))
records_of bytes = records default_config (strip_bom bytes)

-- the seven fields of a run's record, where its digest is written so; a number in decimal has no leading zero
abbrev pub fields_with : RunRow → List ℕ → List (List ℕ)
fields_with row digest =
    decimal row.run ∷ row.recipe ∷ decimal row.cycles ∷ decimal row.changed ∷ decimal row.created ∷ decimal row.removed
    ∷ digest ∷ []

-- the numbers of a run are below 4,294,967,296
pub record IsInBounds (row : RunRow) : Type 0 where
  pub run : row.run < 2 ^ 32
  pub cycles : row.cycles < 2 ^ 32
  pub changed : row.changed < 2 ^ 32
  pub created : row.created < 2 ^ 32
  pub removed : row.removed < 2 ^ 32

-- the fields are the record of this run, whose digest stands in 64 hex digits of either case
pub record IsRecordOf (row : RunRow) (fields : List (List ℕ)) : Type 0 where
  pub in_bounds : IsInBounds row
  pub digits : List ℕ
  pub digest : decode_sized digits 32 ≡ Ok row.digest
  pub spelled : fields ≡ fields_with row digits

-- the records are those of these runs, one by one
unfoldable pub AreRecordsOf : List RunRow → List (List (List ℕ)) → Type 0
AreRecordsOf [] [] = ⊤
AreRecordsOf (row ∷ rows) (fields ∷ records) = IsRecordOf row fields × AreRecordsOf rows records
AreRecordsOf [] (fields ∷ records) = ⊥
AreRecordsOf (row ∷ rows) [] = ⊥

-- the runs' numbers go up by one, from this number on
unfoldable pub AreNumbered : ℕ → List RunRow → Type 0
AreNumbered number [] = ⊤
AreNumbered number (row ∷ rows) = (row.run ≡ number) × AreNumbered (number + 1) rows

-- the bytes are a history of these runs
pub record IsHistory (bytes : List ℕ) (rows : List RunRow) : Type 0 where
  pub short : length bytes ≤ most_bytes
  pub numbered : AreNumbered 1 rows
  pub records : AreRecordsOf rows (records_of bytes)

-- the fields of a run's record as it is written
abbrev pub written : RunRow → List (List ℕ)
written row = fields_with row (encode_lower row.digest)

-- the text of a run's record: a field stands in quotes just where it holds a comma, a quote, CR or LF, a quote in it is
-- written twice, and LF ends the record
abbrev pub row_line : RunRow → List ℕ
row_line row = row_text default_writer (written row)
