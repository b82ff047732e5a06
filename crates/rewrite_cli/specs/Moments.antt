-- What a crash may leave while a command is at work.
use Rattle.std.specs.Prelude.{◌≡◌, ◌⊎◌, ℕ, ◌≤◌, Bool, IsTrue, List, [], ◌∷◌, length}
use Rattle.rw_host.specs.Crash.{Images}
use Rattle.rw_host.specs.Files.{Files}
use Rattle.journal_text.specs.Changes.{Change as Written}
use Rattle.journal_text.specs.Text.{journal_text}
use Rattle.run_journal.specs.Standing.{StandAlike, StandsFor, applied, bare}
use Rattle.command_words.specs.Words.{Asked}
use Rattle.rewrite_cli.specs.declared.limits.TheConstants.{MOST_JOURNAL}
use Rattle.rewrite_cli.specs.Answers.{run_answer}
use Rattle.rewrite_cli.specs.Meanings.{Meanings}

-- each image stands for some repository
abbrev pub EachStands : Images → Type 0
EachStands images = (c : Files) → images c → (repository : Files) × StandsFor c repository

-- Files stand for a repository for which an image stood at the start, or for the same as the files that an answer
-- leaves.
abbrev pub IsOldOrNew : Images → Files → Images
IsOldOrNew images left c = ((d : Files) × (images d × StandAlike d c)) ⊎ StandAlike left c

-- what a crash may leave while a batch is committed, whose journal may be too long
abbrev pub IsLeftByBatch : List Written → Files → Images
IsLeftByBatch batch before c = StandsFor c (bare before)
    ⊎ ((length (journal_text batch) ≤ MOST_JOURNAL) × StandsFor c (bare (applied batch before)))

-- and while what a run has changed is
unfoldable pub IsLeftByCommit : List Written → List Written → Files → Images
IsLeftByCommit [] batch before c = StandsFor c (bare before)
IsLeftByCommit (x ∷ xs) batch before c = IsLeftByBatch batch before c

-- while a run is at work on files with a closed gate: they stay, or become what its answer leaves
abbrev pub IsLeftByRun : Meanings → Asked → Files → Images
IsLeftByRun meanings asked files c =
    StandsFor c (bare files) ⊎ StandAlike (run_answer meanings asked files).left c

-- Nothing was written: what a crash may leave is what it might have left before.
pub record Idle {S : Type 0} (told : Bool) (is_unsynced : S → Bool) (moment : S → ℕ) (left_since : S → ℕ → Images)
    (image : S → Images) (old new : S) : Type 0 where
  pub unsynced : is_unsynced new ≡ is_unsynced old
  pub later : IsTrue told → moment old ≤ moment new
  pub nothing_else : IsTrue told → (t : ℕ) (c : Files) → t ≤ moment old
      → left_since new t c → left_since old t c ⊎ image old c
  pub now : IsTrue told → (c : Files) → image new c → image old c
