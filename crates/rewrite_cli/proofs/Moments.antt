-- What a crash may leave while a command is at work.
use Rattle.std.proofs.Common.{◌≡◌, ◌⊎◌, inl, inr, ℕ, ◌≤◌, false, List, [], ◌∷◌, length, None, refl, sym, subst}
use Rattle.std.proofs.lemmas.Bool.{both_ways, le-ltb}
use Rattle.rw_host.specs.Crash.{Goes, Images, Leaves, Only, Same}
use Rattle.rw_host.specs.CrashLaws.{leaves_at_start, leaves_join, leaves_then, leaves_weaker}
use Rattle.rw_host.specs.Files.{Files}
use Rattle.journal_text.specs.Changes.{Change as Written}
use Rattle.journal_text.specs.Text.{journal_text}
use Rattle.run_journal.specs.Standing.{OldOrNew, StandAlike, StandsFor, applied, bare, committed, is_open}
use Rattle.run_history.specs.declared.row.RunRow.{RunRow}
use Rattle.command_words.specs.Words.{Asked}
use Rattle.rewrite_cli.specs.declared.limits.TheConstants.{MOST_JOURNAL}
use Rattle.rewrite_cli.specs.Answers.{Answer, answer, by_batch, left_by_run, run_answer, run_batch}
use Rattle.rewrite_cli.specs.Changes.{batch_of, changes}
use Rattle.rewrite_cli.specs.Histories.{history_bytes, rows}
use Rattle.rewrite_cli.specs.Journals.{closed}
use Rattle.rewrite_cli.specs.Limits.{limit_of}
use Rattle.rewrite_cli.specs.Meanings.{Meanings}
use Rattle.rewrite_cli.specs.Moments.{EachStands, IsLeftByBatch, IsLeftByCommit, IsLeftByRun, IsOldOrNew}
use Rattle.rewrite_cli.specs.declared.running.Prepared.{Prepared}
use Rattle.rewrite_cli.specs.Ends.{ran_told}
use Rattle.rewrite_cli.specs.Prepared.{IsLeftByPrepared, IsReady, batch_by}
use Rattle.rewrite_cli.specs.Running.{Ran, ran, ended}

-- files with a closed gate stand for themselves
pub settled : (files : Files) → is_open files ≡ false → StandsFor files (bare files)
settled files c = inl (record { closed = c; same = refl })

-- and for nothing else
pub settled_alone : (files repository : Files) → is_open files ≡ false → StandsFor files repository → repository ≡ bare files
settled_alone files repository c (inl s) = s.same
settled_alone files repository c (inr (changes, p)) = absurd (both_ways (is_open files) c p.read.opened)

pub alike_itself : (files repository : Files) → StandsFor files repository → StandAlike files files
alike_itself files repository s = (repository, (s, s))

-- ---- from call to call

module _ {S : Type 0} (moment : S → ℕ) (left_since : S → ℕ → Images) (image : S → Images) where
  -- nothing was called yet, and there is one image
  pub begun : (P : Images) (s : S) (files : Files) → ((c : Files) → left_since s (moment s) c → image s c) → Only files (image s) → P files → Leaves moment left_since image s s P P
  begun P s files only_now only holds = leaves_at_start moment left_since image P s only_now (λ c i. subst P (sym (only c i)) holds)

  -- one call more, which changes nothing
  pub still : (P : Images) (a b c : S) → Leaves moment left_since image a b P P → Goes (moment b) (moment c) (left_since b) (left_since c) (image b) (image c) Same → Leaves moment left_since image a c P P
  still P a b c sofar goes = leaves_then moment left_since image P Same a b c sofar goes (λ d e same p. subst P (sym same) p)

  pub weaker : (P Q : Images) (a b : S) → Leaves moment left_since image a b P P → ((c : Files) → P c → Q c) → Leaves moment left_since image a b Q Q
  weaker P Q a b leaves h = leaves_weaker moment left_since image P P Q Q a b leaves h h

  pub joined : (P : Images) (a b c : S) → Leaves moment left_since image a b P P → Leaves moment left_since image b c P P → Leaves moment left_since image a c P P
  joined P a b c one two = leaves_join moment left_since image P P P a b c one two

-- what holds of files with a closed gate that a batch is committed over
pub old_or_new : (one other : List Written) (before now c : Files) → one ≡ other → now ≡ before → OldOrNew one now c → OldOrNew other before c
old_or_new one other before now c e f o = subst (λ x. OldOrNew x before c) e (subst (λ x. OldOrNew one x c) f o)

pub left_by_batch : (batch : List Written) (before now c : Files) → now ≡ before → IsLeftByBatch batch now c → IsLeftByBatch batch before c
left_by_batch batch before now c e l = subst (λ x. IsLeftByBatch batch x c) e l

-- ---- at the start

module _ (images : Images) (files left : Files) (each : EachStands images) (here : images files) where
  pub image_old : (c : Files) → images c → IsOldOrNew images left c
  image_old c i = inl (c, (i, alike_itself c (each c i).0 (each c i).1))

  pub old_or_alike : (c : Files) → images c ⊎ StandAlike files c → IsOldOrNew images left c
  old_or_alike c (inl i) = image_old c i
  old_or_alike c (inr a) = inl (files, (here, a))

  -- behind a recovery
  pub run_old_or_new : (meanings : Meanings) (asked : Asked) (now : Files) → is_open now ≡ false → StandAlike files now → left ≡ (run_answer meanings asked now).left
      → (c : Files) → IsLeftByRun meanings asked now c → IsOldOrNew images left c
  run_old_or_new meanings asked now shut alike is c (inl s) =
      inl (files, (here, (bare now, (subst (StandsFor files) (settled_alone now alike.0 shut alike.1.1) alike.1.0, s))))
  run_old_or_new meanings asked now shut alike is c (inr a) = inr (subst (λ f. StandAlike f c) (sym is) a)

-- ---- what a commit leaves, as the answer has it

module _ (meanings : Meanings) (asked : Asked) (files : Files) (none : limit_of files files ≡ None) (runs : List RunRow) (history : meanings.history (history_bytes files) ≡ rows runs)
    (r : Ran) (e : ended meanings files asked ≡ ran r) where
  run_is : run_answer meanings asked files ≡ left_by_run runs files asked r
  unfolding run_answer
  run_is = rw (none, history, e) refl

  left_is : (written batch : List Written) → (written ≡ [] → ⊥) → length (journal_text batch) ≤ MOST_JOURNAL → (by_batch written files asked r batch).left ≡ committed batch files
  left_is [] batch n le = absurd (n refl)
  left_is (w ∷ ws) batch n le = rw (le-ltb MOST_JOURNAL (length (journal_text batch)) le) refl

  by_written : (written batch : List Written) → StandsFor (committed batch files) (bare (applied batch files)) → (c : Files) → IsLeftByCommit written batch files c
      → StandsFor c (bare files) ⊎ StandAlike (by_batch written files asked r batch).left c
  unfolding IsLeftByCommit
  by_written [] batch made c s = inl s
  by_written (w ∷ ws) batch made c (inl s) = inl s
  by_written (w ∷ ws) batch made c (inr (le, s)) =
      inr (subst (λ f. StandAlike f c) (sym (left_is (w ∷ ws) batch (λ n. absurd (cc)) le)) (bare (applied batch files), (made, s)))

  pub commit_left : StandsFor (committed (run_batch runs asked r) files) (bare (applied (run_batch runs asked r) files)) → (c : Files)
      → IsLeftByCommit (batch_of (changes r.first r.last)) (run_batch runs asked r) files c → IsLeftByRun meanings asked files c
  commit_left made c s =
      subst (λ (a : Answer). StandsFor c (bare files) ⊎ StandAlike a.left c) (sym run_is) (by_written (batch_of (changes r.first r.last)) (run_batch runs asked r) made c s)

pub commit_made : (batch : List Written) (files : Files) → is_open (committed batch files) ≡ false → bare (committed batch files) ≡ bare (applied batch files) → StandsFor (committed batch files) (bare (applied batch files))
commit_made batch files shut same = subst (StandsFor (committed batch files)) same (settled (committed batch files) shut)

pub prepared_left : (meanings : Meanings) (files : Files) (asked : Asked) (p : Prepared) → IsReady meanings files asked p → StandsFor (committed (batch_by asked p) files) (bare (applied (batch_by asked p) files))
    → (c : Files) → IsLeftByPrepared asked p files c → IsLeftByRun meanings asked files c
prepared_left meanings files asked p ready made c s = commit_left meanings asked files ready.within p.runs.items ready.runs (ran_told p.ran) ready.ran made c s
