-- Where bytes have no reading as a history.
use Rattle.std.specs.Prelude.{◌≡◌, ℕ, ◌+◌, ◌<◌, ◌≤◌, ◌⊎◌, ⊤, List, ◌∷◌, ◌++◌, length}
use Rattle.run_history.specs.declared.row.RunRow.{RunRow}
use Rattle.run_history.specs.declared.reading.HistoryFault.{HistoryFault}
use Rattle.run_history.specs.declared.reading.HistoryFault.TheVariants as fault
use Rattle.run_history.specs.History.{AreNumbered, AreRecordsOf, IsRecordOf, most_bytes, records_of}

-- the place that a fault names, if it does
abbrev pub IfAt : HistoryFault → (ℕ → Type 0) → Type 0
IfAt (fault.At place) P = P place
IfAt fault.NoMemory P = ⊤

-- the fields are the record of no run with this number
abbrev pub IsOutOfForm : ℕ → List (List ℕ) → Type 0
IsOutOfForm number fields = (row : RunRow) → row.run ≡ number → IsRecordOf row fields → ⊥

-- the file has this many records that are in form, and then one that is not
pub record IsFirstOutOfForm (bytes : List ℕ) (place : ℕ) : Type 0 where
  pub rows : List RunRow
  pub before : List (List (List ℕ))
  pub fields : List (List ℕ)
  pub behind : List (List (List ℕ))
  pub split : records_of bytes ≡ before ++ (fields ∷ behind)
  pub number : length before ≡ place
  pub numbered : AreNumbered 1 rows
  pub in_form : AreRecordsOf rows before
  pub out_of_form : IsOutOfForm (place + 1) fields

-- the bytes have no reading, and this is the place that says why
abbrev pub StopsAt : List ℕ → ℕ → Type 0
StopsAt bytes place =
    ((most_bytes < length bytes) × (place ≡ most_bytes)) ⊎ ((length bytes ≤ most_bytes) × IsFirstOutOfForm bytes place)
