-- What a command answers, and what it leaves.
use Rattle.std.specs.Prelude.{◌≡◌, ℕ, ◌+◌, ◌==◌, nat_lt, Bool, true, false, List, [], ◌∷◌, ◌++◌, length, decimal, codes}
use Rattle.std.specs.Prelude.{Option, None, Some, ◌⊎◌, if◌then◌else◌}
use Rattle.std.specs.FinMap as map
use Rattle.rw_base.specs.declared.place.Place.{Place}
use Rattle.rw_host.specs.Files.{Files}
use Rattle.rw_host.specs.Sink.{PutsPrefix}
use Rattle.journal_text.specs.Changes.{Change as Written, journal}
use Rattle.journal_text.specs.Text.{journal_text}
use Rattle.run_journal.specs.Standing.{committed}
use Rattle.run_history.specs.declared.row.RunRow.{RunRow}
use Rattle.recipe_yaml.specs.declared.fault.RecipeFault.{RecipeFault}
use Rattle.recipe_yaml.specs.declared.fault.RecipeFault.TheVariants.{Wrong, NoMemory}
use Rattle.scheduler.specs.declared.event.Event.{Event}
use Rattle.command_words.specs.Words.{Asked, Command, apply, dry, check, recover, history}
use Rattle.rewrite_cli.specs.declared.limits.Limit.{Limit}
use Rattle.rewrite_cli.specs.declared.limits.Limit.TheVariants as limit
use Rattle.rewrite_cli.specs.declared.limits.TheConstants.{MOST_JOURNAL}
use Rattle.rewrite_cli.specs.declared.report.ChangeKind.TheVariants as kind
use Rattle.rewrite_cli.specs.declared.stop.TheConstants.{USAGE_LINE}
use Rattle.rewrite_cli.specs.Changes.{batch_of, batch_with, changes}
use Rattle.rewrite_cli.specs.Checking.{check_text, any_refused}
use Rattle.rewrite_cli.specs.Histories.{History, rows, damaged as no_history, digest_of, history_bytes, history_path}
use Rattle.rewrite_cli.specs.Histories.{history_text, run_lines}
use Rattle.rewrite_cli.specs.Journals.{Journal, pending, damaged, recovered, stood}
use Rattle.rewrite_cli.specs.Limits.{limit_of, limit_line}
use Rattle.rewrite_cli.specs.Meanings.{Meanings}
use Rattle.rewrite_cli.specs.Report.{count_of, report}
use Rattle.rewrite_cli.specs.Running.{Ran, Ends, ran, fault, past, ended}

-- the exit status, the text that is put, and the files that are left
pub record Answer : Type 0 where
  pub status : ℕ
  pub text : List ℕ
  pub left : Files

-- done, and 1 where something is told of a file
abbrev pub done : Bool → ℕ
done any = if any then 1 else 0

abbrev pub tells : List Event → Bool
tells [] = false
tells (e ∷ es) = true

-- ---- answers that leave the files as they are

-- the line of a fault of the recipe file or of the plan
abbrev pub at_place : Option Place → List ℕ
at_place None = []
at_place (Some place) = codes " at " ++ decimal place.line ++ codes ":" ++ decimal place.column

unfoldable pub recipe_fault_line : RecipeFault → List ℕ
recipe_fault_line (Wrong number place) = codes "recipe fault " ++ decimal number ++ at_place place ++ codes "\n"
recipe_fault_line NoMemory = []

abbrev pub faulty : RecipeFault → Files → Answer
faulty f files = record { status = 3; text = recipe_fault_line f; left = files }

-- a limit is passed
abbrev pub stopped : Limit → Files → Answer
stopped l files = record { status = 8; text = limit_line l; left = files }

abbrev pub within : Option Limit → Files → Answer → Answer
within (Some l) files a = stopped l files
within None files a = a

-- the file at a path has no reading from this place on
unfoldable pub damaged_line : List ℕ → ℕ → List ℕ
damaged_line path at = codes "damaged: " ++ path ++ codes " at " ++ decimal at ++ codes "\n"

abbrev pub broken : List ℕ → ℕ → Files → Answer
broken path at files = record { status = 9; text = damaged_line path at; left = files }

-- by the history of a repository
abbrev pub by_history : History → Files → (List RunRow → Answer) → Answer
by_history (rows runs) files over = over runs
by_history (no_history at) files over = broken history_path at files

-- ---- commands that write nothing, over what the store stands for

abbrev pub over_standing : Journal → Files → (Files → Answer) → Answer
over_standing (damaged at) files over = broken journal at files
over_standing opened files over = over (stood opened files)

abbrev pub by_end : Files → (Ran → Answer) → Ends → Answer
by_end files answered (ran r) = answered r
by_end files answered (fault f) = faulty f files
by_end files answered (past l) = stopped l files

-- a run was made, and these files are left
abbrev pub done_with : Asked → Ran → Files → Answer
done_with asked r left = record { status = done (tells r.events); text = report asked r; left = left }

unfoldable pub dry_answer : Meanings → Files → Asked → Files → Answer
dry_answer meanings files asked standing =
    within (limit_of files standing) files (by_end files (λ r. done_with asked r files) (ended meanings standing asked))

unfoldable pub check_answer : Meanings → Files → Files → Answer
check_answer meanings files standing = within (limit_of files standing) files (record {
  status = done (any_refused meanings.read standing (map.keys standing));
  text = check_text meanings.read standing;
  left = files;
})

unfoldable pub history_answer : Meanings → Files → Files → Answer
history_answer meanings files standing = by_history (meanings.history (history_bytes standing)) files
    (λ runs. record { status = 0; text = run_lines runs; left = files })

-- ---- `run`, over what a recovery leaves

-- the row of a run that changes so much
unfoldable pub row_of : List RunRow → Asked → Ran → RunRow
row_of runs asked r = record {
  run = length runs + 1;
  recipe = asked.recipe;
  cycles = r.cycles;
  changed = count_of kind.Changed (changes r.first r.last);
  created = count_of kind.Created (changes r.first r.last);
  removed = count_of kind.Removed (changes r.first r.last);
  digest = digest_of (batch_of (changes r.first r.last));
}

-- what is committed: the changed files, and the history with one more row
unfoldable pub run_batch : List RunRow → Asked → Ran → List Written
run_batch runs asked r = batch_with (history_path, Some (history_text (runs ++ row_of runs asked r ∷ [])))
    (batch_of (changes r.first r.last))

-- Where nothing is changed, nothing is committed.
abbrev pub by_batch : List Written → Files → Asked → Ran → List Written → Answer
by_batch [] files asked r batch = done_with asked r files
by_batch (c ∷ cs) files asked r batch =
    if nat_lt MOST_JOURNAL (length (journal_text batch)) then stopped limit.JournalBytes files
    else done_with asked r (committed batch files)

abbrev pub left_by_run : List RunRow → Files → Asked → Ran → Answer
left_by_run runs files asked r = by_batch (batch_of (changes r.first r.last)) files asked r (run_batch runs asked r)

unfoldable pub run_answer : Meanings → Asked → Files → Answer
run_answer meanings asked files = within (limit_of files files) files
    (by_history (meanings.history (history_bytes files)) files
    (λ runs. by_end files (left_by_run runs files asked) (ended meanings files asked)))

-- ---- all commands

abbrev pub over_recovered : Journal → Files → (Files → Answer) → Answer
over_recovered (damaged at) files over = broken journal at files
over_recovered opened files over = over (recovered opened files)

unfoldable pub recovered_line : ℕ → List ℕ
recovered_line count = codes "recovered " ++ decimal count ++ codes "\n"

-- how many changes are still to be made
abbrev pub count_pending : Journal → ℕ
count_pending (pending changes) = length changes
count_pending opened = 0

unfoldable pub recover_answer : Journal → Files → Answer
recover_answer opened left = record { status = 0; text = recovered_line (count_pending opened); left = left }

-- The answer of a command over files.
unfoldable pub answer : Meanings → Files → Command → Answer
answer meanings files (apply asked) = over_recovered (meanings.journal files) files (run_answer meanings asked)
answer meanings files (dry asked) = over_standing (meanings.journal files) files (dry_answer meanings files asked)
answer meanings files check = over_standing (meanings.journal files) files (check_answer meanings files)
answer meanings files recover =
    over_recovered (meanings.journal files) files (recover_answer (meanings.journal files))
answer meanings files history = over_standing (meanings.journal files) files (history_answer meanings files)

-- the commands that write files
abbrev pub is_writing : Command → Bool
is_writing (apply asked) = true
is_writing recover = true
is_writing _ = false

-- ---- what is put

-- the line of a status that no answer has
abbrev pub fault_line : ℕ → List ℕ
fault_line status =
    if status == 2 then USAGE_LINE.now
    else if status == 4 then codes "read fault\n"
    else if status == 5 then codes "write fault\n"
    else []

-- A text was put behind what was put before, or the first part of it where the sink failed.
abbrev pub IsPut : Type 0 → List ℕ → List ℕ → List ℕ → Type 0
IsPut sink_failed text old new = (new ≡ old ++ text) ⊎ (sink_failed × PutsPrefix old text new)
