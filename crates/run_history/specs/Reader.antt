-- A reader of bytes between two records, what it has left, and a run that is taken.
use Rattle.std.specs.Prelude.{◌≡◌, ℕ, ◌+◌, List, [], ◌∷◌, ◌++◌, length, ⊤, Option, Some, false, true, unwrap_or}
use Rattle.std.specs.Borrow.{Bor}
use Rattle.csv.specs.Machine.{ends_at_end}
use Rattle.csv.specs.Reading.{Ready, default_config, is_flexible, reader_config, reader_state, reader_trim}
use Rattle.csv.specs.Reading.{records_from, source_of}
use Rattle.csv.specs.declared.error.ErrorKind.{ErrorKind}
use Rattle.csv.specs.declared.error.ErrorKind.TheVariants as kind
use Rattle.csv.specs.declared.reader.Reader.{Reader}
use Rattle.run_history.specs.History.{IsRecordOf}
use Rattle.run_history.specs.declared.row.RunRow.{RunRow}
use Rattle.csv.specs.declared.reader.Trim.TheVariants as trim

abbrev pub known : Bor (List ℕ) → Option (List ℕ)
known source = Some source.now

-- the bytes that it has left
abbrev pub left_bytes : Reader (Bor (List ℕ)) → List ℕ
left_bytes reader = unwrap_or (source_of known reader) []

-- it is set up for a history, and stands where a record may begin
pub record IsBetween (reader : Reader (Bor (List ℕ))) : Type 0 where
  pub ready : Ready reader
  pub trim : reader_trim reader ≡ trim.None
  pub config : reader_config reader ≡ default_config
  pub flexible : is_flexible reader ≡ true
  pub state : ends_at_end (reader_state reader) ≡ false
  pub source : source_of known reader ≡ Some (left_bytes reader)

-- the records that it has left
abbrev pub left_in : Reader (Bor (List ℕ)) → List (List (List ℕ))
left_in reader = records_from default_config (length (left_bytes reader) + 1) (reader_state reader) (left_bytes reader)

-- a failure for memory or of the bytes underneath, and not for what a record holds
abbrev pub IsOfMemory : ErrorKind → Type 0
IsOfMemory kind.OutOfMemory = ⊤
IsOfMemory (kind.Io e) = ⊤
IsOfMemory (kind.UnequalLengths pos expected len) = ⊥
IsOfMemory (kind.Utf8 pos err) = ⊥
IsOfMemory (kind.Serialize why) = ⊥
IsOfMemory (kind.Deserialize pos err) = ⊥

-- the runs have one more, of the next number, and these are the fields of its record
pub record OneMore (old new : List RunRow) (fields : List (List ℕ)) : Type 0 where
  pub row : RunRow
  pub items : new ≡ old ++ (row ∷ [])
  pub number : row.run ≡ length old + 1
  pub in_form : IsRecordOf row fields
