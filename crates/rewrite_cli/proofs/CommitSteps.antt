-- What a run commits, step by step.
use Rattle.std.proofs.Common.{◌≡◌, inl, inr, ℕ, ◌<◌, ◌≤◌, ◌+◌, ◌++◌, List, [], ◌∷◌, length, Result, Ok, Err, refl, ap, ◌∙◌, arith, Some}
use Rattle.std.specs.Prelude.{flat_map}
use Rattle.rw_host.specs.Files.{Files}
use Rattle.kept_files.specs.States.{AreKept}
use Rattle.journal_text.specs.Changes.{AllFree, ArePaths, Change as Written, Rises, changes_of}
use Rattle.journal_text.specs.Text.{journal_text}
use Rattle.journal_text.specs.declared.batch.Entry.{Entry}
use Rattle.run_journal.specs.Standing.{OldOrNew, StandsFor, bare, committed}
use Rattle.run_history.specs.History.{AreNumbered, row_line}
use Rattle.run_history.specs.declared.row.RunRow.{RunRow}
use Rattle.command_words.specs.Words.{Asked}
use Rattle.rewrite_cli.specs.declared.changes.Change.{Change}
use Rattle.rewrite_cli.specs.declared.limits.Limit.TheVariants as limit
use Rattle.rewrite_cli.specs.declared.limits.TheConstants.{MOST_JOURNAL}
use Rattle.rewrite_cli.specs.declared.report.ChangeKind.TheVariants as kind
use Rattle.rewrite_cli.specs.declared.stop.Stop.{Stop}
use Rattle.rewrite_cli.specs.declared.stop.Stop.TheVariants as stop
use Rattle.rewrite_cli.specs.Answers.{row_of, run_batch}
use Rattle.rewrite_cli.specs.Changes.{batch_of, batch_with, changes}
use Rattle.rewrite_cli.specs.Ends.{IsBatchEnd, IsCommitEnd, IsFault}
use Rattle.rewrite_cli.specs.Histories.{digest_of, history_path, history_text}
use Rattle.rewrite_cli.specs.Moments.{IsLeftByBatch, IsLeftByCommit}
use Rattle.rewrite_cli.specs.Report.{count_of}
use Rattle.rewrite_cli.specs.Running.{Ran}
use Rattle.rewrite_cli.proofs.Batches.{batch_free, batch_rises}

-- ---- the row of a run

abbrev pub made : ℕ → List ℕ → ℕ → ℕ → ℕ → ℕ → List ℕ → RunRow
made run recipe cycles changed created removed digest = record { run = run; recipe = recipe; cycles = cycles; changed = changed; created = created; removed = removed; digest = digest }

module _ (runs : List RunRow) (asked : Asked) (r : Ran) (cs : List Change) (is : cs ≡ changes r.first r.last) where
  pub row_is : (row : RunRow) → row.run ≡ length runs + 1 → row.recipe ≡ asked.recipe → row.cycles ≡ r.cycles → row.changed ≡ count_of kind.Changed cs
      → row.created ≡ count_of kind.Created cs → row.removed ≡ count_of kind.Removed cs → row.digest ≡ digest_of (batch_of cs) → row ≡ row_of runs asked r
  unfolding row_of
  row_is row n recipe cycles changed created removed digest =
      let c = changed ∙ ap (count_of kind.Changed) is in
      let m = created ∙ ap (count_of kind.Created) is in
      let g = removed ∙ ap (count_of kind.Removed) is in
      let d = digest ∙ ap (λ x. digest_of (batch_of x)) is in
      ap (λ x. made x row.recipe row.cycles row.changed row.created row.removed row.digest) n
      ∙ (ap (λ x. made (length runs + 1) x row.cycles row.changed row.created row.removed row.digest) recipe
      ∙ (ap (λ x. made (length runs + 1) asked.recipe x row.changed row.created row.removed row.digest) cycles
      ∙ (ap (λ x. made (length runs + 1) asked.recipe r.cycles x row.created row.removed row.digest) c
      ∙ (ap (λ x. made (length runs + 1) asked.recipe r.cycles (count_of kind.Changed (changes r.first r.last)) x row.removed row.digest) m
      ∙ (ap (λ x. made (length runs + 1) asked.recipe r.cycles (count_of kind.Changed (changes r.first r.last)) (count_of kind.Created (changes r.first r.last)) x row.digest) g
      ∙ ap (made (length runs + 1) asked.recipe r.cycles (count_of kind.Changed (changes r.first r.last)) (count_of kind.Created (changes r.first r.last)) (count_of kind.Removed (changes r.first r.last))) d)))))

  pub batch_is : (row : RunRow) (old new : List Written) (bytes : List ℕ) → row ≡ row_of runs asked r → bytes ≡ flat_map row_line (runs ++ row ∷ []) → old ≡ batch_of cs
      → new ≡ batch_with (history_path, Some bytes) old → new ≡ run_batch runs asked r
  unfolding run_batch
  batch_is row old new bytes e b o n =
      n ∙ (ap (λ x. batch_with (history_path, Some x) old) (b ∙ ap (λ x. history_text (runs ++ x ∷ [])) e)
      ∙ ap (batch_with (history_path, Some (history_text (runs ++ row_of runs asked r ∷ [])))) (o ∙ ap batch_of is))

pub ruleset rows = (row_is)

-- ---- the batch of a run

pub run_rises : (runs : List RunRow) (asked : Asked) (r : Ran) → AreKept r.first → AreKept r.last → ArePaths (batch_of (changes r.first r.last)) → Rises [] (run_batch runs asked r)
unfolding run_batch
run_rises runs asked r kf kl paths = batch_rises r.first r.last (history_path, Some (history_text (runs ++ row_of runs asked r ∷ []))) refl kf kl paths

pub run_free : (runs : List RunRow) (asked : Asked) (r : Ran) → AllFree (run_batch runs asked r)
unfolding run_batch
run_free runs asked r = batch_free r.first r.last (history_path, Some (history_text (runs ++ row_of runs asked r ∷ []))) refl

pub no_entries : (es : List Entry) → changes_of es ≡ [] → es ≡ []
no_entries [] e = refl
no_entries (x ∷ es) e = absurd (cc)

-- ---- numbers of runs

pub numbered_more : (n : ℕ) (runs : List RunRow) (row : RunRow) → AreNumbered n runs → row.run ≡ n + length runs → AreNumbered n (runs ++ row ∷ [])
unfolding AreNumbered
numbered_more n [] row a e = (omega (arith, e), tt)
numbered_more n (r ∷ runs) row a e = (a.0, numbered_more (n + 1) runs row a.1 (omega (arith, e)))

pub row_numbered : (runs : List RunRow) (asked : Asked) (r : Ran) (row : RunRow) → AreNumbered 1 runs → row ≡ row_of runs asked r → AreNumbered 1 (runs ++ row ∷ [])
unfolding row_of
row_numbered runs asked r row a e = numbered_more 1 runs row a (let is = ap (λ (x : RunRow). x.run) e in omega (arith, is))

pub ruleset batches = (batch_is, row_numbered)

-- ---- how a commit ends

pub fault_read : IsFault stop.ReadFault
unfolding IsFault
fault_read = tt

pub fault_write : IsFault stop.WriteFault
unfolding IsFault
fault_write = tt

pub fault_memory : IsFault stop.NoMemory
unfolding IsFault
fault_memory = tt

module _ (batch : List Written) (before after : Files) where
  pub batch_done : (u : Unit {0}) → length (journal_text batch) ≤ MOST_JOURNAL → after ≡ committed batch before → IsBatchEnd batch before (Ok u) after
  unfolding IsBatchEnd
  batch_done u le e = (le, e)

  pub batch_limited : MOST_JOURNAL < length (journal_text batch) → after ≡ before → IsBatchEnd batch before (Err (stop.Limit limit.JournalBytes)) after
  unfolding IsBatchEnd
  batch_limited lt e = (refl, (lt, e))

  pub batch_fault : (s : Stop) → IsFault s → IsBatchEnd batch before (Err s) after
  unfolding IsBatchEnd IsFault
  batch_fault stop.ReadFault f = tt
  batch_fault stop.WriteFault f = tt
  batch_fault stop.NoMemory f = tt
  batch_fault (stop.Recipe line) f = absurd f
  batch_fault (stop.Limit l) f = absurd f
  batch_fault (stop.Damaged line) f = absurd f

  pub commit_none : (changed : List Written) (u : Unit {0}) → changed ≡ [] → after ≡ before → IsCommitEnd changed batch before (Ok u) after
  unfolding IsCommitEnd
  commit_none changed u n e = rw n e

  pub commit_fault : (changed : List Written) (s : Stop) → IsFault s → IsCommitEnd changed batch before (Err s) after
  unfolding IsCommitEnd
  commit_fault [] s f = f
  commit_fault (c ∷ cs) s f = batch_fault s f

  pub commit_some : (changed : List Written) (ended : Result (Unit {0}) Stop) → (changed ≡ [] → ⊥) → IsBatchEnd batch before ended after → IsCommitEnd changed batch before ended after
  unfolding IsCommitEnd
  commit_some [] ended n b = absurd (n refl)
  commit_some (c ∷ cs) ended n b = b

-- ---- what a crash may leave meanwhile

pub left_old : (batch : List Written) (before c : Files) → StandsFor c (bare before) → IsLeftByBatch batch before c
left_old batch before c s = inl s

pub left_by : (batch : List Written) (before c : Files) → length (journal_text batch) ≤ MOST_JOURNAL → OldOrNew batch before c → IsLeftByBatch batch before c
left_by batch before c le (inl s) = inl s
left_by batch before c le (inr s) = inr (le, s)

pub left_commit_old : (changed batch : List Written) (before c : Files) → StandsFor c (bare before) → IsLeftByCommit changed batch before c
unfolding IsLeftByCommit
left_commit_old [] batch before c s = s
left_commit_old (x ∷ xs) batch before c s = inl s

pub left_commit : (changed batch : List Written) (before c : Files) → (changed ≡ [] → ⊥) → IsLeftByBatch batch before c → IsLeftByCommit changed batch before c
unfolding IsLeftByCommit
left_commit [] batch before c n s = absurd (n refl)
left_commit (x ∷ xs) batch before c n s = s

pub ruleset commits = (fault_read, fault_write, fault_memory, batch_done, batch_limited, batch_fault, commit_none, commit_fault, commit_some)
