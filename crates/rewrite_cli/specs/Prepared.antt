-- A run that is still to be committed, and how it ends. These serve private functions alone.
use Rattle.std.specs.Prelude.{◌≡◌, List, None, Result, Ok, Err}
use Rattle.rw_host.specs.Crash.{Images}
use Rattle.rw_host.specs.Files.{Files}
use Rattle.journal_text.specs.Changes.{Change as Written}
use Rattle.command_words.specs.Words.{Asked}
use Rattle.rewrite_cli.specs.declared.running.Prepared.{Prepared}
use Rattle.rewrite_cli.specs.declared.stop.Done.{Done}
use Rattle.rewrite_cli.specs.declared.stop.Stop.{Stop}
use Rattle.rewrite_cli.specs.Answers.{run_batch, tells}
use Rattle.rewrite_cli.specs.Changes.{batch_of, changes}
use Rattle.rewrite_cli.specs.Ends.{IsCommitEnd, ran_told}
use Rattle.rewrite_cli.specs.Histories.{history_bytes, rows}
use Rattle.rewrite_cli.specs.Limits.{limit_of}
use Rattle.rewrite_cli.specs.Meanings.{Meanings}
use Rattle.rewrite_cli.specs.Moments.{IsLeftByCommit}
use Rattle.rewrite_cli.specs.Report.{report}
use Rattle.rewrite_cli.specs.Running.{ended, ran}

-- what the recipe came to, within the limits and behind these runs, and what is told of it
pub record IsReady (meanings : Meanings) (files : Files) (asked : Asked) (p : Prepared) : Type 0 where
  pub within : limit_of files files ≡ None
  pub runs : meanings.history (history_bytes files) ≡ rows p.runs.items
  pub ran : ended meanings files asked ≡ ran (ran_told p.ran)
  pub text : p.done.text.items ≡ report asked (ran_told p.ran)
  pub told : p.done.tells_of_files ≡ tells (ran_told p.ran).events

-- what is written of it, but for the history
abbrev pub written_by : Prepared → List Written
written_by p = batch_of (changes (ran_told p.ran).first (ran_told p.ran).last)

-- and with it
abbrev pub batch_by : Asked → Prepared → List Written
batch_by asked p = run_batch p.runs.items asked (ran_told p.ran)

-- how its commit ends
unfoldable pub IsRunEnd : Asked → Prepared → Files → Result Done Stop → Files → Type 0
IsRunEnd asked p before (Ok d) after = (d ≡ p.done) × IsCommitEnd (written_by p) (batch_by asked p) before (Ok tt) after
IsRunEnd asked p before (Err s) after = IsCommitEnd (written_by p) (batch_by asked p) before (Err s) after

-- what a crash may leave meanwhile
abbrev pub IsLeftByPrepared : Asked → Prepared → Files → Images
IsLeftByPrepared asked p before = IsLeftByCommit (written_by p) (batch_by asked p) before
