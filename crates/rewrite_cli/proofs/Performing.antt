-- What a run comes to, and what a command answers.
use Rattle.std.specs.Prelude.{Some, Result, Ok, Err, Vec, IfOk, IfErr}
use Rattle.std.specs.Global.{Global}
use Rattle.std.proofs.Common.{◌≡◌, ◌≢◌, inr, false, ℕ, ◌++◌, List, [], map as map_list, refl, sym, ap, subst, ◌∙◌}
use Rattle.rw_host.specs.Files.{Files}
use Rattle.kept_files.specs.States.{State}
use Rattle.recipe_yaml.specs.declared.fault.RecipeFault.{RecipeFault}
use Rattle.recipe_yaml.specs.declared.plans.Plan.{Plan}
use Rattle.scheduler.specs.declared.fault.RunFault.{RunFault}
use Rattle.scheduler.specs.declared.fault.RunFault.TheVariants as run_fault
use Rattle.scheduler.specs.Runs.{run, end, too_much, reached}
use Rattle.rw_host.specs.declared.file.SourceFile.{SourceFile}
use Rattle.j_repair.specs.Changes.{file_of}
use Rattle.rewrite_cli.specs.declared.limits.Limit.TheVariants as limit
use Rattle.rewrite_cli.specs.declared.running.Ran.{Ran as ToldRan}
use Rattle.rewrite_cli.specs.declared.stop.Stop.{Stop}
use Rattle.rewrite_cli.specs.declared.stop.Stop.TheVariants as stop
use Rattle.journal_text.specs.Changes.{journal}
use Rattle.journal_text.specs.declared.batch.Entry.{Entry}
use Rattle.command_words.specs.Words.{Asked, Command, apply, check, command_of, dry, history, recover}
use Rattle.rewrite_cli.specs.declared.stop.Done.{Done}
use Rattle.rewrite_cli.specs.Answers.{Answer, answer, broken, check_answer, count_pending, damaged_line, dry_answer, history_answer, over_recovered, over_standing, recover_answer, recovered_line, run_answer}
use Rattle.rewrite_cli.specs.Journals.{Journal, closed, pending, damaged, laid, recovered}
use Rattle.rewrite_cli.specs.Statuses.{IsAnswered, IsAsBefore}
use Rattle.rewrite_cli.specs.Meanings.{Meanings}
use Rattle.rewrite_cli.specs.Opening.{opening, plan_in}
use Rattle.rewrite_cli.specs.Sources.{sources_of}
use Rattle.rewrite_cli.specs.Running.{Ends, ran, fault, past, ran_by, run_by, ended_by, ended, refusals}
use Rattle.rewrite_cli.specs.Ends.{IsEnd, IsJournalStop, IsRecoveryEnd, IsRunStop, IsRunStopOf, IsReadStop, IsPlanStop, IsStandingEnd, IsToldBy, TellsFault}

-- ---- how a run ends early

pub too_much_stop : (bytes : ℕ) → IsRunStopOf (run_fault.TooMuch bytes) (stop.Limit limit.StepBytes)
unfolding IsRunStopOf
too_much_stop bytes = refl

pub memory_stop : IsRunStopOf run_fault.NoMemory stop.NoMemory
unfolding IsRunStopOf
memory_stop = refl

pub ruleset stops = (too_much_stop, memory_stop)

-- ---- a recipe over a repository

module _ (meanings : Meanings) (files : Files) (asked : Asked) where
  by_plan : (plan : Result Plan RecipeFault) → plan_in meanings files asked.recipe ≡ plan → ended meanings files asked ≡ ended_by meanings.read asked.cycles (refusals meanings.read files) (opening meanings.read files) plan
  unfolding ended
  by_plan plan e = rw e refl

  -- the plan has a fault
  pub fault_end : (f : RecipeFault) → plan_in meanings files asked.recipe ≡ Err f → ended meanings files asked ≡ fault f
  unfolding ended_by
  fault_end f e = by_plan (Err f) e

  by_run : (plan : Plan) (first : State) → plan_in meanings files asked.recipe ≡ Ok plan → first ≡ opening meanings.read files
      → ended meanings files asked ≡ run_by (refusals meanings.read files) first (run meanings.read plan asked.cycles first)
  unfolding ended_by
  by_run plan first e o = by_plan (Ok plan) e ∙ ap (λ s. run_by (refusals meanings.read files) s (run meanings.read plan asked.cycles s)) (sym o)

  module _ (plan : Plan) (first : State) (e : plan_in meanings files asked.recipe ≡ Ok plan) (o : first ≡ opening meanings.read files) where
    pub run_end : (r : ToldRan) → reached first [] (run meanings.read plan asked.cycles first).stages ≡ end r.kept r.events → (run meanings.read plan asked.cycles first).cycles ≡ r.cycles
        → (run meanings.read plan asked.cycles first).still_changing ≡ r.still_changing → r.first.items ≡ first → r.refused.items ≡ refusals meanings.read files → IsEnd (ended meanings files asked) (Ok r)
    unfolding IsEnd
    run_end r c y s f t =
        let told = refusals meanings.read files in
        let made = run meanings.read plan asked.cycles first in
        by_run plan first e o
        ∙ (ap (ran_by told first made) c
        ∙ (ap (λ k. ran (record { first = first; last = r.kept; events = told ++ r.events; cycles = k; still_changing = made.still_changing })) y
        ∙ (ap (λ b. ran (record { first = first; last = r.kept; events = told ++ r.events; cycles = r.cycles; still_changing = b })) s
        ∙ (ap (λ fs. ran (record { first = fs; last = r.kept; events = told ++ r.events; cycles = r.cycles; still_changing = r.still_changing })) (sym f)
        ∙ ap (λ es. ran (record { first = r.first.items; last = r.kept; events = es ++ r.events; cycles = r.cycles; still_changing = r.still_changing })) (sym t)))))

    pub step_end : (kept : State) (bytes : ℕ) → reached first [] (run meanings.read plan asked.cycles first).stages ≡ too_much kept bytes → ended meanings files asked ≡ past limit.StepBytes
    step_end kept bytes c = by_run plan first e o ∙ ap (ran_by (refusals meanings.read files) first (run meanings.read plan asked.cycles first)) c

    pub fault_of_run : (f : RunFault) (s : Stop) → ((bytes : ℕ) → f ≡ run_fault.TooMuch bytes → (kept : State) × (reached first [] (run meanings.read plan asked.cycles first).stages ≡ too_much kept bytes))
        → IsRunStopOf f s → IsEnd (ended meanings files asked) (Err s)
    unfolding IsEnd IsRunStopOf
    fault_of_run (run_fault.TooMuch bytes) s h i = let t = h bytes refl in rw i (step_end t.0 bytes t.1)
    fault_of_run run_fault.NoMemory s h i = rw i tt

  told_end : (p : Result Plan RecipeFault) (line : List ℕ) → plan_in meanings files asked.recipe ≡ p → TellsFault p (stop.Recipe line) → IsEnd (ended meanings files asked) (Err (stop.Recipe line))
  unfolding IsEnd TellsFault IsToldBy
  told_end (Err f) line e t = (f, (fault_end f e, t))
  told_end (Ok plan) line e t = absurd t

  -- the call that makes the plan stopped
  pub plan_end : (s : Stop) → IsPlanStop s → TellsFault (plan_in meanings files asked.recipe) s → IsEnd (ended meanings files asked) (Err s)
  unfolding IsEnd IsPlanStop
  plan_end (stop.Recipe line) i t = told_end (plan_in meanings files asked.recipe) line refl t
  plan_end stop.ReadFault i t = tt
  plan_end stop.WriteFault i t = absurd i
  plan_end stop.NoMemory i t = tt
  plan_end (stop.Limit l) i t = absurd i
  plan_end (stop.Damaged line) i t = absurd i

  pub memory_end : IsEnd (ended meanings files asked) (Err stop.NoMemory)
  unfolding IsEnd
  memory_end = tt

pub stopped_end : (ends : Ends) (r : Result ToldRan Stop) (s : Stop) → r ≡ Err s → s ≡ stop.NoMemory → IsEnd ends r
unfolding IsEnd
stopped_end ends r s is e = rw (is, e) tt

pub opening_is : (meanings : Meanings) (files : Files) (sources : List SourceFile) → sources ≡ sources_of files → map_list (file_of meanings.read) sources ≡ opening meanings.read files
unfolding opening
opening_is meanings files sources e = ap (λ s. map_list (file_of meanings.read) s) e

pub read_run : (s : Stop) → IsReadStop s → IsRunStop s
unfolding IsReadStop IsRunStop
read_run (stop.Recipe line) i = absurd i
read_run (stop.Damaged line) i = absurd i
read_run stop.ReadFault i = tt
read_run stop.WriteFault i = absurd i
read_run stop.NoMemory i = tt
read_run (stop.Limit l) i = tt

pub plan_run : (s : Stop) → IsPlanStop s → IsRunStop s
unfolding IsPlanStop IsRunStop
plan_run (stop.Recipe line) i = tt
plan_run stop.ReadFault i = tt
plan_run stop.WriteFault i = absurd i
plan_run stop.NoMemory i = tt
plan_run (stop.Limit l) i = absurd i
plan_run (stop.Damaged line) i = absurd i

pub fault_run : (f : RunFault) (s : Stop) → IsRunStopOf f s → IsRunStop s
unfolding IsRunStopOf IsRunStop
fault_run (run_fault.TooMuch bytes) s i = rw i tt
fault_run run_fault.NoMemory s i = rw i tt

pub fault_not_read : (f : RunFault) (s : Stop) → IsRunStopOf f s → ◌≡◌ {A = Result ToldRan Stop} (Err s) (Err stop.ReadFault) → ⊥
unfolding IsRunStopOf
fault_not_read (run_fault.TooMuch bytes) s i e = absurd (cc)
fault_not_read run_fault.NoMemory s i e = absurd (cc)

pub memory_run : IsRunStop stop.NoMemory
unfolding IsRunStop
memory_run = tt

pub ruleset runs = (run_end, fault_of_run, plan_end, memory_end, opening_is, read_run, plan_run, fault_run, memory_run)

-- ---- commands

some_of : (a b : Command) → Some a ≡ Some b → a ≡ b
some_of a b e = cc

-- what holds of the command that was read holds of each that the words ask for
pub of_command : (words : List (List ℕ)) (told : Command) → Some told ≡ command_of words → (P : Command → Type 0) → P told → (command : Command) → command_of words ≡ Some command → P command
of_command words told e P p command is = subst P (some_of told command (e ∙ is)) p

-- a stop that only reads is no fault of writing
pub no_write_run : (s : Stop) → IsRunStop s → s ≡ stop.WriteFault → ⊥
unfolding IsRunStop
no_write_run s i e = subst (λ t. IsRunStop t) e i

pub no_write_read : (s : Stop) → IsReadStop s → s ≡ stop.WriteFault → ⊥
unfolding IsReadStop
no_write_read s i e = subst (λ t. IsReadStop t) e i

-- ---- behind a recovery, and over what a store stands for

pub over_now : (opened : Journal) (before now : Files) (n : ℕ) (over : Files → Answer) → IsRecoveryEnd opened before (Ok n) now → over_recovered opened before over ≡ over now
unfolding IsRecoveryEnd recovered
over_now closed before now n over e = ap over (sym e.1)
over_now (pending cs) before now n over e = ap over (sym e.1)
over_now (damaged at) before now n over e = absurd e

pub count_now : (opened : Journal) (before now : Files) (n : ℕ) → IsRecoveryEnd opened before (Ok n) now → n ≡ count_pending opened
unfolding IsRecoveryEnd
count_now closed before now n e = e.0
count_now (pending cs) before now n e = e.0
count_now (damaged at) before now n e = absurd e

pub as_recovered : (opened : Journal) (before now : Files) (n : ℕ) → IsRecoveryEnd opened before (Ok n) now → now ≡ recovered opened before
unfolding IsRecoveryEnd recovered
as_recovered closed before now n e = e.1
as_recovered (pending cs) before now n e = e.1
as_recovered (damaged at) before now n e = absurd e

pub over_laid : (opened : Journal) (files : Files) (entries : Vec Entry Global) (over : Files → Answer) → IsStandingEnd opened files (Ok entries) → over_standing opened files over ≡ over (laid entries.items files)
unfolding IsStandingEnd
over_laid closed files entries over e = ap over (sym e)
over_laid (pending cs) files entries over e = ap over (sym e)
over_laid (damaged at) files entries over e = absurd e

broken_is : (path line : List ℕ) (at : ℕ) (files after : Files) → line ≡ damaged_line path at → after ≡ files → IsAnswered (broken path at files) (Err (stop.Damaged line)) after
unfolding IsAnswered
broken_is path line at files after e same = (refl, (e, same))

fault_is : (a : Answer) (after : Files) → IsAnswered a (Err stop.ReadFault) after × (IsAnswered a (Err stop.WriteFault) after × IsAnswered a (Err stop.NoMemory) after)
unfolding IsAnswered
fault_is a after = (tt, (tt, tt))

module _ (files after : Files) (over : Files → Answer) where
  pub recovered_stopped : (opened : Journal) (s : Stop) → IsJournalStop opened s → (s ≢ stop.WriteFault → after ≡ files) → IsAnswered (over_recovered opened files over) (Err s) after
  unfolding IsJournalStop
  recovered_stopped opened (stop.Damaged line) (at, (e, l)) same = rw e (broken_is journal line at files after l (same (λ w. absurd (cc))))
  recovered_stopped opened stop.ReadFault i same = (fault_is (over_recovered opened files over) after).0
  recovered_stopped opened stop.WriteFault i same = (fault_is (over_recovered opened files over) after).1.0
  recovered_stopped opened stop.NoMemory i same = (fault_is (over_recovered opened files over) after).1.1
  recovered_stopped opened (stop.Recipe line) i same = absurd i
  recovered_stopped opened (stop.Limit l) i same = absurd i

  pub standing_stopped : (opened : Journal) (s : Stop) → IsJournalStop opened s → after ≡ files → IsAnswered (over_standing opened files over) (Err s) after
  unfolding IsJournalStop
  standing_stopped opened (stop.Damaged line) (at, (e, l)) same = rw e (broken_is journal line at files after l same)
  standing_stopped opened stop.ReadFault i same = (fault_is (over_standing opened files over) after).0
  standing_stopped opened stop.WriteFault i same = (fault_is (over_standing opened files over) after).1.0
  standing_stopped opened stop.NoMemory i same = (fault_is (over_standing opened files over) after).1.1
  standing_stopped opened (stop.Recipe line) i same = absurd i
  standing_stopped opened (stop.Limit l) i same = absurd i

pub journal_stop : (opened : Journal) (before after : Files) (s : Stop) → IsRecoveryEnd opened before (Err s) after → IsJournalStop opened s
unfolding IsRecoveryEnd
journal_stop closed before after s i = i
journal_stop (pending cs) before after s i = i
journal_stop (damaged at) before after s i = i

pub standing_stop : (opened : Journal) (files : Files) (s : Stop) → IsStandingEnd opened files (Err s) → IsJournalStop opened s
unfolding IsStandingEnd
standing_stop closed files s i = i
standing_stop (pending cs) files s i = i
standing_stop (damaged at) files s i = i

-- the answers, as they are made
module _ (meanings : Meanings) (files : Files) where
  pub apply_is : (asked : Asked) → answer meanings files (apply asked) ≡ over_recovered (meanings.journal files) files (run_answer meanings asked)
  unfolding answer
  apply_is asked = refl

  pub dry_is : (asked : Asked) → answer meanings files (dry asked) ≡ over_standing (meanings.journal files) files (dry_answer meanings files asked)
  unfolding answer
  dry_is asked = refl

  pub check_is : answer meanings files check ≡ over_standing (meanings.journal files) files (check_answer meanings files)
  unfolding answer
  check_is = refl

  pub recover_is : answer meanings files recover ≡ over_recovered (meanings.journal files) files (recover_answer (meanings.journal files))
  unfolding answer
  recover_is = refl

  pub history_is : answer meanings files history ≡ over_standing (meanings.journal files) files (history_answer meanings files)
  unfolding answer
  history_is = refl

pub recover_told : (opened : Journal) (now : Files) (d : Done) (n : ℕ) → n ≡ count_pending opened → d.text.items ≡ recovered_line n → d.tells_of_files ≡ false → IsAnswered (recover_answer opened now) (Ok d) now
unfolding IsAnswered recover_answer
recover_told opened now d n c t f = (rw f refl, (t ∙ ap recovered_line c, refl))

same_stop : (s t : Stop) → ◌≡◌ {A = Result Done Stop} (Err s) (Err t) → s ≡ t
same_stop s t e = cc

pub recover_ended : (opened : Journal) (now : Files) (n : ℕ) (r : Result Done Stop) → n ≡ count_pending opened → IfOk r (λ d. d.text.items ≡ recovered_line n) → IfOk r (λ d. d.tells_of_files ≡ false)
    → IfErr r (λ s. s ≡ stop.NoMemory) → IsAnswered (recover_answer opened now) r now
recover_ended opened now n (Ok d) c t f m = recover_told opened now d n c t f
recover_ended opened now n (Err s) c t f m = rw m ((fault_is (recover_answer opened now) now).1.1)

pub as_before : (r : Result Done Stop) (opened : Journal) (before now after : Files) → now ≡ recovered opened before → IfErr r (λ s. s ≢ stop.WriteFault → after ≡ now)
    → IfErr r (λ s. s ≢ stop.WriteFault → IsAsBefore opened before after)
as_before (Ok d) opened before now after e u = tt
as_before (Err s) opened before now after e u = λ n. inr (u n ∙ e)

pub kept_before : (r : Result Done Stop) (opened : Journal) (before after : Files) → after ≡ recovered opened before → IfErr r (λ s. s ≢ stop.WriteFault → IsAsBefore opened before after)
kept_before (Ok d) opened before after e = tt
kept_before (Err s) opened before after e = λ n. inr e

pub no_fault_read : (r : Result Done Stop) → IfErr r (λ s. s ≡ stop.NoMemory) → r ≢ Err stop.ReadFault
no_fault_read (Ok d) m e = absurd (cc)
no_fault_read (Err s) m e = absurd (let bad : stop.NoMemory ≡ stop.ReadFault = sym m ∙ same_stop s stop.ReadFault e in cc)

pub no_fault_write : (r : Result Done Stop) → IfErr r (λ s. s ≡ stop.NoMemory) → r ≢ Err stop.WriteFault
no_fault_write (Ok d) m e = absurd (cc)
no_fault_write (Err s) m e = absurd (let bad : stop.NoMemory ≡ stop.WriteFault = sym m ∙ same_stop s stop.WriteFault e in cc)

pub ruleset performed = (no_write_run, no_write_read, no_fault_read, no_fault_write)
