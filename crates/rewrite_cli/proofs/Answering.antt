-- How a command that was done, or stopped, meets its answer.
use Rattle.std.specs.Prelude.{Some, None, Result, Ok, Err, IsOk, IfErr, OnOk, ◌⊎◌, ◌≢◌}
use Rattle.std.proofs.Common.{◌≡◌, ℕ, ◌≤◌, ◌+◌, ◌++◌, ◌||◌, Bool, true, false, List, [], ◌∷◌, length, refl, sym, ap, subst, ◌∙◌, arith, inl, inr}
use Rattle.std.proofs.lemmas.Bool.{le-ltb, lt-ltb}
use Rattle.std.specs.FinMap as map
use Rattle.rw_host.specs.Files.{Files}
use Rattle.journal_text.specs.Changes.{Change as Written}
use Rattle.journal_text.specs.Text.{journal_text}
use Rattle.run_journal.specs.Standing.{committed}
use Rattle.run_history.specs.declared.row.RunRow.{RunRow}
use Rattle.recipe_yaml.specs.declared.fault.RecipeFault.{RecipeFault}
use Rattle.command_words.specs.Words.{Asked}
use Rattle.rewrite_cli.specs.declared.limits.Limit.{Limit}
use Rattle.rewrite_cli.specs.declared.limits.TheConstants.{MOST_JOURNAL}
use Rattle.rewrite_cli.specs.declared.running.Ran.{Ran as ToldRan}
use Rattle.rewrite_cli.specs.declared.stop.Done.{Done}
use Rattle.rewrite_cli.specs.declared.stop.Stop.{Stop}
use Rattle.rewrite_cli.specs.declared.stop.Stop.TheVariants as stop
use Rattle.rewrite_cli.specs.Sources.{count_read}
use Rattle.rewrite_cli.specs.Limits.{limit_of, limit_line}
use Rattle.rewrite_cli.specs.Meanings.{Meanings}
use Rattle.rewrite_cli.specs.Running.{Ran, Ends, ran, fault, past, ended}
use Rattle.rewrite_cli.specs.Changes.{batch_of, changes}
use Rattle.rewrite_cli.specs.Checking.{any_refused, lines, count_line, check_text}
use Rattle.rewrite_cli.specs.Histories.{history_bytes, rows}
use Rattle.rewrite_cli.specs.Report.{report}
use Rattle.rewrite_cli.specs.Answers.{Answer, by_batch, by_end, check_answer, done, done_with, dry_answer, left_by_run, recipe_fault_line, run_answer, run_batch, stopped, tells}
use Rattle.rewrite_cli.specs.Statuses.{IsAnswered, IsHalted, NamesNoFault, status_of, text_of}
use Rattle.rewrite_cli.specs.declared.running.Prepared.{Prepared}
use Rattle.rewrite_cli.specs.Prepared.{IsReady, IsRunEnd, batch_by, written_by}
use Rattle.rewrite_cli.specs.Ends.{IsBatchEnd, IsCommitEnd, IsEnd, IsFault, IsHistoryEnd, IsReadStop, IsRunStop, ran_told}

not_four : NamesNoFault 4 → ⊥
not_four (inl le) = absurd (omega (arith, le))
not_four (inr (inl e)) = absurd (omega (arith, e))
not_four (inr (inr (inl e))) = absurd (omega (arith, e))
not_four (inr (inr (inr e))) = absurd (omega (arith, e))

not_five : NamesNoFault 5 → ⊥
not_five (inl le) = absurd (omega (arith, le))
not_five (inr (inl e)) = absurd (omega (arith, e))
not_five (inr (inr (inl e))) = absurd (omega (arith, e))
not_five (inr (inr (inr e))) = absurd (omega (arith, e))

not_six : NamesNoFault 6 → ⊥
not_six (inl le) = absurd (omega (arith, le))
not_six (inr (inl e)) = absurd (omega (arith, e))
not_six (inr (inr (inl e))) = absurd (omega (arith, e))
not_six (inr (inr (inr e))) = absurd (omega (arith, e))

-- ---- `check`

module _ (meanings : Meanings) (files standing after : Files) where
  pub checked : (d : Done) → limit_of files standing ≡ None → d.tells_of_files ≡ (false || any_refused meanings.read standing (map.keys standing))
      → d.text.items ≡ count_line (count_read (map.keys standing)) ++ lines meanings.read standing (map.keys standing) → after ≡ files → IsAnswered (check_answer meanings files standing) (Ok d) after
  unfolding IsAnswered check_answer check_text
  checked d none refused text same = rw none (ap done refused, (text, same))

  pub check_passed : (l : Limit) → limit_of files standing ≡ Some l → after ≡ files → IsAnswered (check_answer meanings files standing) (Err (stop.Limit l)) after
  unfolding IsAnswered check_answer
  check_passed l e same = rw e (refl, (refl, same))

  pub check_stopped : (s : Stop) → IsReadStop s → ((l : Limit) → s ≡ stop.Limit l → limit_of files standing ≡ Some l) → after ≡ files → IsAnswered (check_answer meanings files standing) (Err s) after
  unfolding IsAnswered IsReadStop
  check_stopped (stop.Recipe line) i h same = absurd i
  check_stopped stop.ReadFault i h same = tt
  check_stopped stop.WriteFault i h same = absurd i
  check_stopped stop.NoMemory i h same = tt
  check_stopped (stop.Limit l) i h same = check_passed l (h l refl) same
  check_stopped (stop.Damaged line) i h same = absurd i

  pub check_done : (d : Done) (ps : List (List ℕ)) → ps ≡ map.keys standing → limit_of files standing ≡ None → d.tells_of_files ≡ (false || any_refused meanings.read standing ps)
      → d.text.items ≡ count_line (count_read ps) ++ lines meanings.read standing ps → after ≡ files → IsAnswered (check_answer meanings files standing) (Ok d) after
  check_done d ps is none refused text same =
      checked d none (refused ∙ ap (λ xs. false || any_refused meanings.read standing xs) is) (text ∙ ap (λ xs. count_line (count_read xs) ++ lines meanings.read standing xs) is) same

-- a stop of which no answer speaks
module _ (a : Answer) (after : Files) where
  pub read_fault : IsAnswered a (Err stop.ReadFault) after
  unfolding IsAnswered
  read_fault = tt

  pub write_fault : IsAnswered a (Err stop.WriteFault) after
  unfolding IsAnswered
  write_fault = tt

  pub no_memory : IsAnswered a (Err stop.NoMemory) after
  unfolding IsAnswered
  no_memory = tt

  pub limited : (l : Limit) → a ≡ stopped l after → IsAnswered a (Err (stop.Limit l)) after
  unfolding IsAnswered
  limited l e = rw e (refl, (refl, refl))

  -- a limit of the repository, or none
  pub read_stopped : (s : Stop) → IsReadStop s → ((l : Limit) → s ≡ stop.Limit l → a ≡ stopped l after) → IsAnswered a (Err s) after
  unfolding IsReadStop
  read_stopped (stop.Recipe line) i h = absurd i
  read_stopped stop.ReadFault i h = read_fault
  read_stopped stop.WriteFault i h = absurd i
  read_stopped stop.NoMemory i h = no_memory
  read_stopped (stop.Limit l) i h = limited l (h l refl)
  read_stopped (stop.Damaged line) i h = absurd i

pub ruleset answered = (check_done, read_fault, write_fault, no_memory)

-- ---- `run` and `dry`, by how the recipe ended

module _ (files after : Files) (answered : Ran → Answer) (same : after ≡ files) where
  fault_end : (f : RecipeFault) (line : List ℕ) → line ≡ recipe_fault_line f → IsAnswered (by_end files answered (fault f)) (Err (stop.Recipe line)) after
  unfolding IsAnswered
  fault_end f line e = (refl, (e, same))

  past_end : (l : Limit) → IsAnswered (by_end files answered (past l)) (Err (stop.Limit l)) after
  unfolding IsAnswered
  past_end l = (refl, (refl, same))

  pub not_ended : (ends : Ends) (s : Stop) → IsEnd ends (Err s) → IsAnswered (by_end files answered ends) (Err s) after
  unfolding IsEnd
  not_ended ends (stop.Recipe line) (f, (e, l)) = rw e (fault_end f line l)
  not_ended ends stop.ReadFault i = read_fault (by_end files answered ends) after
  not_ended ends stop.WriteFault i = write_fault (by_end files answered ends) after
  not_ended ends stop.NoMemory i = no_memory (by_end files answered ends) after
  not_ended ends (stop.Limit l) i = rw i (past_end l)
  not_ended ends (stop.Damaged line) i = absurd i

pub done_as : (asked : Asked) (r : Ran) (d : Done) (left after : Files) → d.text.items ≡ report asked r → d.tells_of_files ≡ tells r.events → after ≡ left → IsAnswered (done_with asked r left) (Ok d) after
unfolding IsAnswered
done_as asked r d left after text told same = (ap done told, (text, same))

module _ (meanings : Meanings) (files standing after : Files) (asked : Asked) (same : after ≡ files) where
  pub dry_limited : (s : Stop) → IsReadStop s → ((l : Limit) → s ≡ stop.Limit l → limit_of files standing ≡ Some l) → IsAnswered (dry_answer meanings files asked standing) (Err s) after
  unfolding dry_answer
  dry_limited s i h = read_stopped (dry_answer meanings files asked standing) after s i (λ l e. rw (h l e) (ap (stopped l) (sym same)))

  module _ (none : limit_of files standing ≡ None) where
    pub dry_done : (r : ToldRan) (d : Done) → ended meanings standing asked ≡ ran (ran_told r) → d.text.items ≡ report asked (ran_told r) → d.tells_of_files ≡ tells (ran_told r).events
        → IsAnswered (dry_answer meanings files asked standing) (Ok d) after
    unfolding dry_answer
    dry_done r d e text told = rw (none, e) (done_as asked (ran_told r) d files after text told same)

    pub dry_ended : (s : Stop) → IsEnd (ended meanings standing asked) (Err s) → IsAnswered (dry_answer meanings files asked standing) (Err s) after
    unfolding dry_answer
    dry_ended s i = rw none (not_ended files after (λ r. done_with asked r files) same (ended meanings standing asked) s i)

module _ (meanings : Meanings) (files after : Files) (asked : Asked) where
  pub run_limited : (s : Stop) → IsReadStop s → ((l : Limit) → s ≡ stop.Limit l → limit_of files files ≡ Some l) → after ≡ files → IsAnswered (run_answer meanings asked files) (Err s) after
  unfolding run_answer
  run_limited s i h same = read_stopped (run_answer meanings asked files) after s i (λ l e. rw (h l e) (ap (stopped l) (sym same)))

  module _ (none : limit_of files files ≡ None) where
    pub run_unread : (s : Stop) → IsHistoryEnd (meanings.history (history_bytes files)) (Err s) → after ≡ files → IsAnswered (run_answer meanings asked files) (Err s) after
    unfolding IsHistoryEnd run_answer IsAnswered
    run_unread (stop.Damaged line) i same = rw (none, i.1.0) (refl, (i.1.1, same))
    run_unread stop.ReadFault i same = tt
    run_unread stop.NoMemory i same = tt
    run_unread stop.WriteFault i same = absurd i
    run_unread (stop.Recipe line) i same = absurd i
    run_unread (stop.Limit l) i same = absurd i

    module _ (runs : List RunRow) (history : meanings.history (history_bytes files) ≡ rows runs) where
      pub run_ended : (s : Stop) → IsEnd (ended meanings files asked) (Err s) → after ≡ files → IsAnswered (run_answer meanings asked files) (Err s) after
      unfolding run_answer
      run_ended s i same = rw (none, history) (not_ended files after (left_by_run runs files asked) same (ended meanings files asked) s i)

      module _ (r : Ran) (e : ended meanings files asked ≡ ran r) where
        run_is : run_answer meanings asked files ≡ left_by_run runs files asked r
        unfolding run_answer
        run_is = rw (none, history, e) refl

        done_by : (written batch : List Written) (d : Done) (u : Unit {0}) → d.text.items ≡ report asked r → d.tells_of_files ≡ tells r.events → IsCommitEnd written batch files (Ok u) after
            → IsAnswered (by_batch written files asked r batch) (Ok d) after
        unfolding IsCommitEnd IsBatchEnd
        done_by [] batch d u text told c = done_as asked r d files after text told c
        done_by (w ∷ ws) batch d u text told c = rw (le-ltb MOST_JOURNAL (length (journal_text batch)) c.0) (done_as asked r d (committed batch files) after text told c.1)

        pub run_done : (d : Done) (u : Unit {0}) → d.text.items ≡ report asked r → d.tells_of_files ≡ tells r.events
            → IsCommitEnd (batch_of (changes r.first r.last)) (run_batch runs asked r) files (Ok u) after → IsAnswered (run_answer meanings asked files) (Ok d) after
        run_done d u text told c =
            subst (λ a. IsAnswered a (Ok d) after) (sym run_is) (done_by (batch_of (changes r.first r.last)) (run_batch runs asked r) d u text told c)

        stopped_by : (written batch : List Written) (s : Stop) → IsCommitEnd written batch files (Err s) after → IsAnswered (by_batch written files asked r batch) (Err s) after
        unfolding IsCommitEnd IsBatchEnd IsAnswered IsFault
        stopped_by [] batch stop.ReadFault c = tt
        stopped_by [] batch stop.WriteFault c = tt
        stopped_by [] batch stop.NoMemory c = tt
        stopped_by [] batch (stop.Limit l) c = absurd c
        stopped_by [] batch (stop.Recipe line) c = absurd c
        stopped_by [] batch (stop.Damaged line) c = absurd c
        stopped_by (w ∷ ws) batch stop.ReadFault c = tt
        stopped_by (w ∷ ws) batch stop.WriteFault c = tt
        stopped_by (w ∷ ws) batch stop.NoMemory c = tt
        stopped_by (w ∷ ws) batch (stop.Limit l) c = rw (lt-ltb MOST_JOURNAL (length (journal_text batch)) c.1.0) (refl, (ap limit_line c.0, c.1.1))
        stopped_by (w ∷ ws) batch (stop.Recipe line) c = absurd c
        stopped_by (w ∷ ws) batch (stop.Damaged line) c = absurd c

        pub run_stopped : (s : Stop) → IsCommitEnd (batch_of (changes r.first r.last)) (run_batch runs asked r) files (Err s) after → IsAnswered (run_answer meanings asked files) (Err s) after
        run_stopped s c = subst (λ a. IsAnswered a (Err s) after) (sym run_is) (stopped_by (batch_of (changes r.first r.last)) (run_batch runs asked r) s c)

pub is_ran : (ends : Ends) (r : ToldRan) → IsEnd ends (Ok r) → ends ≡ ran (ran_told r)
unfolding IsEnd
is_ran ends r e = e

-- stops that are no stops
pub no_write : (s : Stop) → IsRunStop s → s ≡ stop.WriteFault → ⊥
unfolding IsRunStop
no_write s i e = subst (λ t. IsRunStop t) e i

pub memory_run : IsRunStop stop.NoMemory
unfolding IsRunStop
memory_run = tt

pub read_run : (s : Stop) → IsReadStop s → IsRunStop s
unfolding IsReadStop IsRunStop
read_run (stop.Recipe line) i = absurd i
read_run (stop.Damaged line) i = absurd i
read_run stop.ReadFault i = tt
read_run stop.WriteFault i = absurd i
read_run stop.NoMemory i = tt
read_run (stop.Limit l) i = tt

pub ruleset recipes = (dry_limited, dry_done, dry_ended, is_ran, no_write, memory_run, read_run, read_fault, write_fault, no_memory)

-- ---- a run that is prepared, and committed

pub ready : (meanings : Meanings) (files : Files) (asked : Asked) (p : Prepared) → limit_of files files ≡ None → meanings.history (history_bytes files) ≡ rows p.runs.items
    → IsEnd (ended meanings files asked) (Ok p.ran) → p.done.text.items ≡ report asked (ran_told p.ran) → p.done.tells_of_files ≡ tells (ran_told p.ran).events → IsReady meanings files asked p
unfolding IsEnd
ready meanings files asked p none runs e text told = record { within = none; runs = runs; ran = e; text = text; told = told }

pub ruleset preparing = (run_limited, run_unread, run_ended, is_ran, ready, no_write, memory_run, read_run, read_fault, write_fault, no_memory)

pub ended_ok : (asked : Asked) (p : Prepared) (before after : Files) → IsCommitEnd (written_by p) (batch_by asked p) before (Ok tt) after → IsRunEnd asked p before (Ok p.done) after
unfolding IsRunEnd
ended_ok asked p before after e = (refl, e)

pub ended_err : (asked : Asked) (p : Prepared) (before after : Files) (s : Stop) → IsCommitEnd (written_by p) (batch_by asked p) before (Err s) after → IsRunEnd asked p before (Err s) after
unfolding IsRunEnd
ended_err asked p before after s e = e

pub ruleset committing = (ended_ok, ended_err)

pub run_as : (meanings : Meanings) (files after : Files) (asked : Asked) (p : Prepared) (r : Result Done Stop) → IsReady meanings files asked p → IsRunEnd asked p files r after → IsAnswered (run_answer meanings asked files) r after
unfolding IsRunEnd
run_as meanings files after asked p (Ok d) ready e =
    subst (λ x. IsAnswered (run_answer meanings asked files) (Ok x) after) (sym e.0) (run_done meanings files after asked ready.within p.runs.items ready.runs (ran_told p.ran) ready.ran p.done tt ready.text ready.told e.1)
run_as meanings files after asked p (Err s) ready e = run_stopped meanings files after asked ready.within p.runs.items ready.runs (ran_told p.ran) ready.ran s e

-- ---- what is put and left by how a command ended

module _ (a : Answer) (after : Files) where
  pub told_status : (ended : Result Done Stop) → IsAnswered a ended after → NamesNoFault (status_of ended) → status_of ended ≡ a.status
  unfolding IsAnswered
  told_status (Ok d) is n = is.0
  told_status (Err stop.ReadFault) is n = absurd (not_four n)
  told_status (Err stop.WriteFault) is n = absurd (not_five n)
  told_status (Err stop.NoMemory) is n = absurd (not_six n)
  told_status (Err (stop.Limit l)) is n = is.0
  told_status (Err (stop.Recipe line)) is n = is.0
  told_status (Err (stop.Damaged line)) is n = is.0

  pub told_text : (ended : Result Done Stop) → IsAnswered a ended after → NamesNoFault (status_of ended) → text_of ended ≡ a.text
  unfolding IsAnswered
  told_text (Ok d) is n = is.1.0
  told_text (Err stop.ReadFault) is n = absurd (not_four n)
  told_text (Err stop.WriteFault) is n = absurd (not_five n)
  told_text (Err stop.NoMemory) is n = absurd (not_six n)
  told_text (Err (stop.Limit l)) is n = is.1.0
  told_text (Err (stop.Recipe line)) is n = is.1.0
  told_text (Err (stop.Damaged line)) is n = is.1.0

  pub told_left : (ended : Result Done Stop) → IsAnswered a ended after → NamesNoFault (status_of ended) → after ≡ a.left
  unfolding IsAnswered
  told_left (Ok d) is n = is.1.1
  told_left (Err stop.ReadFault) is n = absurd (not_four n)
  told_left (Err stop.WriteFault) is n = absurd (not_five n)
  told_left (Err stop.NoMemory) is n = absurd (not_six n)
  told_left (Err (stop.Limit l)) is n = is.1.1
  told_left (Err (stop.Recipe line)) is n = is.1.1
  told_left (Err (stop.Damaged line)) is n = is.1.1

  ok_told : (ended : Result Done Stop) → IsOk ended → NamesNoFault (status_of ended)
  ok_told (Ok d) o = small d.tells_of_files where
    small : (any : Bool) → NamesNoFault (done any)
    small true = inl (omega arith)
    small false = inl (omega arith)
  ok_told (Err e) o = absurd (let bad : false ≡ true = o in cc)

  ok_small : (ended : Result Done Stop) → IsOk ended → status_of ended ≤ 1
  ok_small (Ok d) o = small d.tells_of_files where
    small : (any : Bool) → done any ≤ 1
    small true = omega arith
    small false = omega arith
  ok_small (Err e) o = absurd (let bad : false ≡ true = o in cc)

pub not_seven : (n : ℕ) → NamesNoFault n → n ≡ 7 → ⊥
not_seven n (inl le) e = absurd (omega (arith, le, e))
not_seven n (inr (inl three)) e = absurd (omega (arith, three, e))
not_seven n (inr (inr (inl eight))) e = absurd (omega (arith, eight, e))
not_seven n (inr (inr (inr nine))) e = absurd (omega (arith, nine, e))

-- the status of the program, and the answer
module _ (a : Answer) (after : Files) (ended : Result Done Stop) (result : ℕ) (is : IsAnswered a ended after)
    (by_status : (result ≡ 7 → ⊥) → result ≡ status_of ended) (cut : result ≡ 7 → IsOk ended) where
  not_cut : NamesNoFault result → result ≡ 7 → ⊥
  not_cut (inl le) e = absurd (omega (arith, le, e))
  not_cut (inr (inl three)) e = absurd (omega (arith, three, e))
  not_cut (inr (inr (inl eight))) e = absurd (omega (arith, eight, e))
  not_cut (inr (inr (inr nine))) e = absurd (omega (arith, nine, e))

  its : (n : NamesNoFault result) → NamesNoFault (status_of ended)
  its n = subst NamesNoFault (by_status (not_cut n)) n

  pub answer_status : NamesNoFault result → result ≡ a.status
  answer_status n = by_status (not_cut n) ∙ told_status a after ended is (its n)

  pub answer_text : NamesNoFault result → text_of ended ≡ a.text
  answer_text n = told_text a after ended is (its n)

  pub answer_left : NamesNoFault result ⊎ (result ≡ 7) → after ≡ a.left
  answer_left (inl n) = told_left a after ended is (its n)
  answer_left (inr e) = told_left a after ended is (ok_told a after ended (cut e))

  pub done_status : result ≡ 7 → a.status ≤ 1
  done_status e = subst (λ s. s ≤ 1) (told_status a after ended is (ok_told a after ended (cut e))) (ok_small a after ended (cut e))

  pub cut_text : result ≡ 7 → text_of ended ≡ a.text
  cut_text e = told_text a after ended is (ok_told a after ended (cut e))

-- ---- whether a command was done, by the status of the program

ok_of_small : (ended : Result Done Stop) → status_of ended ≤ 1 → IsOk ended
ok_of_small (Ok d) le = refl
ok_of_small (Err (stop.Recipe line)) le = absurd (omega (arith, le))
ok_of_small (Err stop.ReadFault) le = absurd (omega (arith, le))
ok_of_small (Err stop.WriteFault) le = absurd (omega (arith, le))
ok_of_small (Err stop.NoMemory) le = absurd (omega (arith, le))
ok_of_small (Err (stop.Limit l)) le = absurd (omega (arith, le))
ok_of_small (Err (stop.Damaged line)) le = absurd (omega (arith, le))

small_status : (any : Bool) → done any ≤ 1
small_status true = omega arith
small_status false = omega arith

not_seven_small : (n : ℕ) → n ≤ 1 → n ≡ 7 → ⊥
not_seven_small n le e = absurd (omega (arith, le, e))

pub on_ok : (P : Type 0) (ended : Result Done Stop) → IsOk ended → OnOk ended P → P
on_ok P (Ok d) o h = h
on_ok P (Err s) o h = absurd (let bad : false ≡ true = o in cc)

pub done_ok : (ended : Result Done Stop) (result : ℕ) → ((result ≡ 7 → ⊥) → result ≡ status_of ended) → (result ≡ 7 → IsOk ended) → result ≤ 1 ⊎ (result ≡ 7) → IsOk ended
done_ok ended result by_status cut (inl le) = ok_of_small ended (subst (λ s. s ≤ 1) (by_status (not_seven_small result le)) le)
done_ok ended result by_status cut (inr e) = cut e

halted_not_seven : (n : ℕ) → IsHalted n → n ≡ 7 → ⊥
halted_not_seven n (inl h) e = absurd (omega (arith, h, e))
halted_not_seven n (inr (inl h)) e = absurd (omega (arith, h, e))
halted_not_seven n (inr (inr (inl h))) e = absurd (omega (arith, h, e))
halted_not_seven n (inr (inr (inr (inl h)))) e = absurd (omega (arith, h, e))
halted_not_seven n (inr (inr (inr (inr h)))) e = absurd (omega (arith, h, e))

halted_large : (n : ℕ) → IsHalted n → n ≤ 1 → ⊥
halted_large n (inl h) e = absurd (omega (arith, h, e))
halted_large n (inr (inl h)) e = absurd (omega (arith, h, e))
halted_large n (inr (inr (inl h))) e = absurd (omega (arith, h, e))
halted_large n (inr (inr (inr (inl h)))) e = absurd (omega (arith, h, e))
halted_large n (inr (inr (inr (inr h)))) e = absurd (omega (arith, h, e))

pub halted_not : (n m : ℕ) → IsHalted n → n ≡ m → (m ≡ 2) ⊎ (m ≡ 5) → ⊥
halted_not n m (inl h) e (inl b) = absurd (omega (arith, h, e, b))
halted_not n m (inl h) e (inr b) = absurd (omega (arith, h, e, b))
halted_not n m (inr (inl h)) e (inl b) = absurd (omega (arith, h, e, b))
halted_not n m (inr (inl h)) e (inr b) = absurd (omega (arith, h, e, b))
halted_not n m (inr (inr (inl h))) e (inl b) = absurd (omega (arith, h, e, b))
halted_not n m (inr (inr (inl h))) e (inr b) = absurd (omega (arith, h, e, b))
halted_not n m (inr (inr (inr (inl h)))) e (inl b) = absurd (omega (arith, h, e, b))
halted_not n m (inr (inr (inr (inl h)))) e (inr b) = absurd (omega (arith, h, e, b))
halted_not n m (inr (inr (inr (inr h)))) e (inl b) = absurd (omega (arith, h, e, b))
halted_not n m (inr (inr (inr (inr h)))) e (inr b) = absurd (omega (arith, h, e, b))

halted_by : (P : Type 0) (ended : Result Done Stop) → IsHalted (status_of ended) → IfErr ended (λ s. s ≢ stop.WriteFault → P) → P
halted_by P (Ok d) h i = absurd (halted_large (done d.tells_of_files) h (small_status d.tells_of_files))
halted_by P (Err stop.WriteFault) h i = absurd (halted_not 5 5 h refl (inr refl))
halted_by P (Err (stop.Recipe line)) h i = i (λ e. absurd (cc))
halted_by P (Err stop.ReadFault) h i = i (λ e. absurd (cc))
halted_by P (Err stop.NoMemory) h i = i (λ e. absurd (cc))
halted_by P (Err (stop.Limit l)) h i = i (λ e. absurd (cc))
halted_by P (Err (stop.Damaged line)) h i = i (λ e. absurd (cc))

pub halted : (P : Type 0) (ended : Result Done Stop) (result : ℕ) → ((result ≡ 7 → ⊥) → result ≡ status_of ended) → IsHalted result → IfErr ended (λ s. s ≢ stop.WriteFault → P) → P
halted P ended result by_status h i = halted_by P ended (subst IsHalted (by_status (halted_not_seven result h)) h) i
