-- What the functions that end a run may answer.
use Rattle.std.specs.Prelude.{◌≡◌, ℕ, zero, suc, ◌<◌, ◌≤◌, List, [], ◌∷◌, ◌++◌, length, codes, Option, Result, Ok}
use Rattle.std.specs.Prelude.{Err, Vec}
use Rattle.std.specs.Global.{Global}
use Rattle.std.specs.Option.{option_map}
use Rattle.std.specs.Ordering.{nat_cmp, match_ordering}
use Rattle.std.specs.Cmp.Lexicographic.{slice_cmp}
use Rattle.std.specs.declared.cmp.Ordering.TheVariants.{Less}
use Rattle.std.specs.FinMap as map
use Rattle.rw_host.specs.Files.{Files, first_bytes}
use Rattle.journal_text.specs.Changes.{Change as Written, journal}
use Rattle.journal_text.specs.Text.{journal_text}
use Rattle.journal_text.specs.declared.batch.Entry.{Entry}
use Rattle.run_journal.specs.Standing.{committed}
use Rattle.kept_files.specs.States.{State}
use Rattle.run_journal.specs.declared.fault.RecoverFault.{RecoverFault}
use Rattle.run_journal.specs.declared.fault.RecoverFault.TheVariants as recover_fault
use Rattle.run_history.specs.declared.reading.HistoryFault.{HistoryFault}
use Rattle.run_history.specs.declared.reading.HistoryFault.TheVariants as history_fault
use Rattle.run_history.specs.declared.row.RunRow.{RunRow}
use Rattle.recipe_yaml.specs.declared.fault.RecipeFault.{RecipeFault}
use Rattle.scheduler.specs.declared.fault.RunFault.{RunFault}
use Rattle.scheduler.specs.declared.fault.RunFault.TheVariants as run_fault
use Rattle.rewrite_cli.specs.declared.limits.Limit.TheVariants as limit
use Rattle.rewrite_cli.specs.declared.limits.TheConstants.{MOST_JOURNAL}
use Rattle.rewrite_cli.specs.declared.running.Ran.{Ran as ToldRan}
use Rattle.rewrite_cli.specs.declared.sources.TheConstants.{MOST_READ}
use Rattle.rewrite_cli.specs.declared.stop.Stop.{Stop}
use Rattle.rewrite_cli.specs.declared.stop.Stop.TheVariants as stop
use Rattle.rewrite_cli.specs.Answers.{damaged_line, recipe_fault_line}
use Rattle.rewrite_cli.specs.Histories.{History, rows, damaged as no_history, history_path}
use Rattle.rewrite_cli.specs.Journals.{Journal, closed, pending, damaged, laid, recovered, stood}
use Rattle.rewrite_cli.specs.Running.{Ran, Ends, ran, fault, past}

-- stops of a call that only reads files
unfoldable pub IsReadStop : Stop → Type 0
IsReadStop stop.ReadFault = Unit {0}
IsReadStop stop.NoMemory = Unit {0}
IsReadStop (stop.Limit l) = Unit {0}
IsReadStop _ = ⊥

-- of one that makes a plan
unfoldable pub IsPlanStop : Stop → Type 0
IsPlanStop (stop.Recipe line) = Unit {0}
IsPlanStop stop.ReadFault = Unit {0}
IsPlanStop stop.NoMemory = Unit {0}
IsPlanStop _ = ⊥

-- of a run that writes nothing
unfoldable pub IsRunStop : Stop → Type 0
IsRunStop stop.WriteFault = ⊥
IsRunStop (stop.Damaged line) = ⊥
IsRunStop _ = Unit {0}

-- how a run that ends early ends a command
unfoldable pub IsRunStopOf : RunFault → Stop → Type 0
IsRunStopOf (run_fault.TooMuch bytes) s = s ≡ stop.Limit limit.StepBytes
IsRunStopOf run_fault.NoMemory s = s ≡ stop.NoMemory

-- a stop of which no answer speaks
unfoldable pub IsFault : Stop → Type 0
IsFault stop.ReadFault = Unit {0}
IsFault stop.WriteFault = Unit {0}
IsFault stop.NoMemory = Unit {0}
IsFault _ = ⊥

-- damage of the file at a path from this place on, unless there was no memory for the line
unfoldable pub TellsDamage : List ℕ → ℕ → Stop → Type 0
TellsDamage path at (stop.Damaged line) = line ≡ damaged_line path at
TellsDamage path at stop.NoMemory = Unit {0}
TellsDamage path at _ = ⊥

-- how a fault of a history ends a command
unfoldable pub IsStopOfHistory : HistoryFault → Stop → Type 0
IsStopOfHistory (history_fault.At at) s = TellsDamage history_path at s
IsStopOfHistory history_fault.NoMemory s = s ≡ stop.NoMemory

-- how the reading of a history ends
unfoldable pub IsHistoryEnd : History → Result (Vec RunRow Global) Stop → Type 0
IsHistoryEnd h (Ok runs) = h ≡ rows runs.items
IsHistoryEnd h (Err (stop.Damaged line)) = (at : ℕ) × ((h ≡ no_history at) × (line ≡ damaged_line history_path at))
IsHistoryEnd h (Err stop.ReadFault) = Unit {0}
IsHistoryEnd h (Err stop.NoMemory) = Unit {0}
IsHistoryEnd h (Err _) = ⊥

-- how a journal ends what was to be done first, where it does
unfoldable pub IsJournalStop : Journal → Stop → Type 0
IsJournalStop opened (stop.Damaged line) = (at : ℕ) × ((opened ≡ damaged at) × (line ≡ damaged_line journal at))
IsJournalStop opened stop.ReadFault = Unit {0}
IsJournalStop opened stop.WriteFault = Unit {0}
IsJournalStop opened stop.NoMemory = Unit {0}
IsJournalStop opened _ = ⊥

-- how a fault of a recovery ends a command
unfoldable pub IsStopOf : RecoverFault → Stop → Type 0
IsStopOf recover_fault.ReadFailed s = s ≡ stop.ReadFault
IsStopOf recover_fault.WriteFailed s = s ≡ stop.WriteFault
IsStopOf recover_fault.NoMemory s = s ≡ stop.NoMemory
IsStopOf (recover_fault.Damaged at) s = TellsDamage journal at s

-- how a recovery ends: with the number of the changes that were still to be made
unfoldable pub IsRecoveryEnd : Journal → Files → Result ℕ Stop → Files → Type 0
IsRecoveryEnd (damaged at) before (Ok n) after = ⊥
IsRecoveryEnd closed before (Ok n) after = (n ≡ 0) × (after ≡ before)
IsRecoveryEnd (pending changes) before (Ok n) after =
    (n ≡ length changes) × (after ≡ recovered (pending changes) before)
IsRecoveryEnd opened before (Err s) after = IsJournalStop opened s

-- what a store stands for: its files with these entries laid over them
unfoldable pub IsStandingEnd : Journal → Files → Result (Vec Entry Global) Stop → Type 0
IsStandingEnd (damaged at) files (Ok entries) = ⊥
IsStandingEnd opened files (Ok entries) = laid entries.items files ≡ stood opened files
IsStandingEnd opened files (Err s) = IsJournalStop opened s

-- how the commit of a batch ends: its journal may be too long
unfoldable pub IsBatchEnd : List Written → Files → Result (Unit {0}) Stop → Files → Type 0
IsBatchEnd batch before (Ok _) after = (length (journal_text batch) ≤ MOST_JOURNAL) × (after ≡ committed batch before)
IsBatchEnd batch before (Err (stop.Limit l)) after =
    (l ≡ limit.JournalBytes) × ((MOST_JOURNAL < length (journal_text batch)) × (after ≡ before))
IsBatchEnd batch before (Err s) after = IsFault s

-- how what a run has changed is committed: not at all where that is nothing
unfoldable pub IsCommitEnd : List Written → List Written → Files → Result (Unit {0}) Stop → Files → Type 0
IsCommitEnd [] batch before (Ok _) after = after ≡ before
IsCommitEnd [] batch before (Err s) after = IsFault s
IsCommitEnd (c ∷ cs) batch before ended after = IsBatchEnd batch before ended after

-- the bytes that are read of the recipe file, if it is there
unfoldable pub IsRecipeFile : Files → Option (List ℕ) → Type 0
IsRecipeFile files found = found ≡ option_map (first_bytes MOST_READ) (map.get files (codes "rewrite.yml"))

-- a stop that doesn't tell of a recipe
unfoldable pub IsSilent : Stop → Type 0
IsSilent (stop.Recipe line) = ⊥
IsSilent _ = Unit {0}

-- a stop tells of a fault, or of something else
unfoldable pub IsToldBy : RecipeFault → Stop → Type 0
IsToldBy f (stop.Recipe line) = line ≡ recipe_fault_line f
IsToldBy f _ = Unit {0}

unfoldable pub TellsFault : {A : Type 0} → Result A RecipeFault → Stop → Type 0
TellsFault (Err f) s = IsToldBy f s
TellsFault (Ok a) (stop.Recipe line) = ⊥
TellsFault (Ok a) _ = Unit {0}

-- what a run that was made says
abbrev pub ran_told : ToldRan → Ran
ran_told r = record {
  first = r.first.items;
  last = r.kept;
  events = r.refused.items ++ r.events;
  cycles = r.cycles;
  still_changing = r.still_changing;
}

-- a recipe ended so, unless a store failed or memory was wanting
unfoldable pub IsEnd : Ends → Result ToldRan Stop → Type 0
IsEnd ends (Ok r) = ends ≡ ran (ran_told r)
IsEnd ends (Err (stop.Recipe line)) = (f : RecipeFault) × ((ends ≡ fault f) × (line ≡ recipe_fault_line f))
IsEnd ends (Err (stop.Limit l)) = ends ≡ past l
IsEnd ends (Err stop.ReadFault) = Unit {0}
IsEnd ends (Err stop.NoMemory) = Unit {0}
IsEnd ends (Err stop.WriteFault) = ⊥
IsEnd ends (Err (stop.Damaged line)) = ⊥

-- ---- where one more goes among what is written

-- the paths at the front are smaller, and the next one isn't
unfoldable pub IsPlaceIn : List Written → List ℕ → ℕ → Type 0
IsPlaceIn [] path at = at ≡ 0
IsPlaceIn (w ∷ ws) path zero = slice_cmp nat_cmp w.0 path ≡ Less → ⊥
IsPlaceIn (w ∷ ws) path (suc at) = (slice_cmp nat_cmp w.0 path ≡ Less) × IsPlaceIn ws path at

-- ---- where a stub goes among the files of a state

-- how many of these files, from the first on, stand before a path
abbrev pub count_before : State → List ℕ → ℕ
count_before [] path = 0
count_before (f ∷ fs) path = match_ordering (slice_cmp nat_cmp f.path path) (suc (count_before fs path)) 0 0
