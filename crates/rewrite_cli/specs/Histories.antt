-- The history of the runs of a repository.
use Rattle.std.specs.Prelude.{ℕ, ◌+◌, List, [], ◌∷◌, ◌++◌, codes, decimal, flat_map, unwrap_or}
use Rattle.std.specs.Option.{option_map}
use Rattle.std.specs.FinMap as map
use Rattle.hex.specs.Hex.{encode_lower}
use Rattle.sha2.specs.Sha256.{sha256}
use Rattle.rw_host.specs.Files.{Files, first_bytes}
use Rattle.journal_text.specs.Changes.{Change}
use Rattle.journal_text.specs.Text.{journal_text}
use Rattle.run_history.specs.History.{IsHistory, row_line}
use Rattle.run_history.specs.Faults.{StopsAt}
use Rattle.run_history.specs.declared.row.RunRow.{RunRow}
use Rattle.rewrite_cli.specs.declared.histories.TheConstants.{MOST_HISTORY}

-- the runs that a file tells of, or the record from which on it has no reading
pub data History : Type 0 where
  rows : List RunRow → History
  damaged : ℕ → History

-- bytes have such a history
unfoldable pub IsHistoryOf : List ℕ → History → Type 0
IsHistoryOf bytes (rows runs) = IsHistory bytes runs
IsHistoryOf bytes (damaged at) = StopsAt bytes at

unfoldable pub history_path : List ℕ
history_path = codes ".rewrite/history.csv"

-- what is read of the history of a repository; one that isn't there is empty
unfoldable pub history_bytes : Files → List ℕ
history_bytes files = unwrap_or (option_map (first_bytes MOST_HISTORY) (map.get files history_path)) []

-- ---- what is told of it

abbrev pub count_text : List ℕ → ℕ → List ℕ
count_text name count = name ++ decimal count

-- `RUN RECIPE cycles N changed N created N removed N DIGEST`
unfoldable pub run_line : RunRow → List ℕ
run_line row =
    decimal row.run ++ codes " " ++ row.recipe ++ count_text (codes " cycles ") row.cycles
    ++ count_text (codes " changed ") row.changed ++ count_text (codes " created ") row.created
    ++ count_text (codes " removed ") row.removed ++ codes " " ++ encode_lower row.digest ++ codes "\n"

unfoldable pub run_lines : List RunRow → List ℕ
run_lines [] = []
run_lines (row ∷ others) = run_line row ++ run_lines others

-- the file with these rows
abbrev pub history_text : List RunRow → List ℕ
history_text runs = flat_map row_line runs

-- the digest of a run's changes: that of their journal
abbrev pub digest_of : List Change → List ℕ
digest_of changes = sha256 (journal_text changes)
