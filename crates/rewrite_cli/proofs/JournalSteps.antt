-- The journal at the start of a command.
use Rattle.std.proofs.Common.{◌≡◌, ℕ, inl, inr, true, false, List, length, Result, Ok, Err, refl, sym, ap, subst, ◌∙◌}
use Rattle.std.specs.Prelude.{Vec}
use Rattle.std.specs.Global.{Global}
use Rattle.std.proofs.lemmas.Bool.{both_ways}
use Rattle.std.specs.FinMap as map
use Rattle.rw_host.specs.Files.{Files}
use Rattle.journal_text.specs.Changes.{Change, IsBatch, changes_of, gate, journal}
use Rattle.journal_text.specs.declared.batch.Entry.{Entry}
use Rattle.journal_text.specs.Reading.{IsPlace}
use Rattle.journal_text.specs.Text.{journal_text}
use Rattle.run_journal.specs.Standing.{CallsFor, IsDamaged, IsRead, IsRecovered, StandsFor, applied, bare, finished, is_open, journal_bytes}
use Rattle.run_journal.specs.declared.fault.RecoverFault.{RecoverFault}
use Rattle.run_journal.specs.declared.fault.RecoverFault.TheVariants as recover_fault
use Rattle.rewrite_cli.specs.declared.stop.Stop.{Stop}
use Rattle.rewrite_cli.specs.declared.stop.Stop.TheVariants as stop
use Rattle.rewrite_cli.specs.Ends.{IsJournalStop, IsRecoveryEnd, IsStandingEnd, IsStopOf, TellsDamage}
use Rattle.rewrite_cli.specs.Journals.{Journal, closed, pending, damaged, IsJournalOf, recovered}

-- ---- how a fault ends a command

pub read_stop : IsStopOf recover_fault.ReadFailed stop.ReadFault
unfolding IsStopOf
read_stop = refl

pub write_stop : IsStopOf recover_fault.WriteFailed stop.WriteFault
unfolding IsStopOf
write_stop = refl

pub memory_stop : IsStopOf recover_fault.NoMemory stop.NoMemory
unfolding IsStopOf
memory_stop = refl

pub damage_stop : (at : ℕ) (path : List ℕ) (s : Stop) → path ≡ journal → TellsDamage path at s → IsStopOf (recover_fault.Damaged at) s
unfolding IsStopOf
damage_stop at path s p t = subst (λ q. TellsDamage q at s) p t

pub ruleset stops = (read_stop, write_stop, memory_stop, damage_stop)

-- which fault it was
pub is_read_fault : (f : RecoverFault) (s : Stop) → IsStopOf f s → s ≡ stop.ReadFault → f ≡ recover_fault.ReadFailed
unfolding IsStopOf TellsDamage
is_read_fault recover_fault.ReadFailed s i e = refl
is_read_fault recover_fault.WriteFailed s i e = absurd (let bad : stop.WriteFault ≡ stop.ReadFault = sym i ∙ e in cc)
is_read_fault recover_fault.NoMemory s i e = absurd (let bad : stop.NoMemory ≡ stop.ReadFault = sym i ∙ e in cc)
is_read_fault (recover_fault.Damaged at) s i e = absurd (subst (TellsDamage journal at) e i)

pub is_write_fault : (f : RecoverFault) (s : Stop) → IsStopOf f s → s ≡ stop.WriteFault → f ≡ recover_fault.WriteFailed
unfolding IsStopOf TellsDamage
is_write_fault recover_fault.WriteFailed s i e = refl
is_write_fault recover_fault.ReadFailed s i e = absurd (let bad : stop.ReadFault ≡ stop.WriteFault = sym i ∙ e in cc)
is_write_fault recover_fault.NoMemory s i e = absurd (let bad : stop.NoMemory ≡ stop.WriteFault = sym i ∙ e in cc)
is_write_fault (recover_fault.Damaged at) s i e = absurd (subst (TellsDamage journal at) e i)

pub write_fault_stops : (f : RecoverFault) (s : Stop) → IsStopOf f s → f ≡ recover_fault.WriteFailed → s ≡ stop.WriteFault
unfolding IsStopOf
write_fault_stops recover_fault.WriteFailed s i e = i
write_fault_stops recover_fault.ReadFailed s i e = absurd (cc)
write_fault_stops recover_fault.NoMemory s i e = absurd (cc)
write_fault_stops (recover_fault.Damaged at) s i e = absurd (cc)

-- a fault, where a damaged journal is told of
pub stop_told : (opened : Journal) (f : RecoverFault) (s : Stop) → ((at : ℕ) → f ≡ recover_fault.Damaged at → opened ≡ damaged at) → IsStopOf f s → IsJournalStop opened s
unfolding IsStopOf IsJournalStop TellsDamage
stop_told opened recover_fault.ReadFailed s h i = rw i tt
stop_told opened recover_fault.WriteFailed s h i = rw i tt
stop_told opened recover_fault.NoMemory s h i = rw i tt
stop_told opened (recover_fault.Damaged at) (stop.Damaged line) h i = (at, (h at refl, i))
stop_told opened (recover_fault.Damaged at) stop.NoMemory h i = tt
stop_told opened (recover_fault.Damaged at) stop.ReadFault h i = absurd i
stop_told opened (recover_fault.Damaged at) stop.WriteFault h i = absurd i
stop_told opened (recover_fault.Damaged at) (stop.Recipe line) h i = absurd i
stop_told opened (recover_fault.Damaged at) (stop.Limit l) h i = absurd i

-- ---- what a recovery does, by what the journal says

-- the laws of journals, as they are handed in
abbrev pub OneBatch : Type 0
OneBatch = (files : Files) (a b : List Change) → IsRead files a → IsRead files b → a ≡ b

abbrev pub OnePlace : Type 0
OnePlace = (files : Files) (m n : ℕ) → IsDamaged files m → IsDamaged files n → m ≡ n

abbrev pub NotCalled : Type 0
NotCalled = (files : Files) (n : ℕ) (changes : List Change) → IsDamaged files n → CallsFor files changes → ⊥

pub one_batch : ((one other : List Change) → IsBatch one → IsBatch other → journal_text one ≡ journal_text other → one ≡ other) → OneBatch
one_batch spelling files a b one other = spelling a b one.reading.batch other.reading.batch (sym one.reading.whole ∙ other.reading.whole)

pub called_none : ((files repository : Files) (n : ℕ) → IsDamaged files n → StandsFor files repository → ⊥)
    → ((files : Files) (changes : List Change) → CallsFor files changes → StandsFor files (bare (applied changes files))) → NotCalled
called_none nothing makes files n changes d c = nothing files (bare (applied changes files)) n d (makes files changes c)

pub one_place : ((bytes : List ℕ) (one other : ℕ) → IsPlace bytes one → IsPlace bytes other → one ≡ other) → OnePlace
one_place places files m n one other = places (journal_bytes files) m n one.place other.place

-- a stop is the same where the answers are
pub same_stop : (s t : Stop) → ◌≡◌ {A = Result ℕ Stop} (Err s) (Err t) → s ≡ t
same_stop s t e = cc

pub same_stop_of : (s t : Stop) → ◌≡◌ {A = Result (Vec Entry Global) Stop} (Err s) (Err t) → s ≡ t
same_stop_of s t e = cc

finished_closed : (changes : List Change) (files : Files) → is_open files ≡ false → finished changes files ≡ files
finished_closed changes files e = rw e refl

finished_open : (changes : List Change) (files : Files) → is_open files ≡ true → finished changes files ≡ map.remove (applied changes files) gate
finished_open changes files e = rw e refl

shut : {A : Type 0} (files : Files) → is_open files ≡ true → is_open files ≡ false → A
shut files a b = absurd (both_ways (is_open files) b a)

module _ (one_batch : OneBatch) (not_called : NotCalled) where
  pub recovery_done : (opened : Journal) (before after : Files) (n : ℕ) (changes : List Change) → IsJournalOf before opened → IsRecovered before after n changes → IsRecoveryEnd opened before (Ok n) after
  unfolding IsJournalOf IsRecoveryEnd recovered
  recovery_done closed before after n changes j r = elim r.called [
    | inl c ↦ (r.number ∙ ap length c.1, r.made ∙ finished_closed changes before j)
    | inr read ↦ shut before read.opened j
  ]
  recovery_done (pending cs) before after n changes j r = elim r.called [
    | inl c ↦ shut before j.opened c.0
    | inr read ↦
        let same : changes ≡ cs = one_batch before changes cs read j in
        (r.number ∙ ap length same, r.made ∙ (finished_open changes before j.opened ∙ ap (λ x. map.remove (applied x before) gate) same))
  ]
  recovery_done (damaged at) before after n changes j r = absurd (not_called before at changes j r.called)

  pub standing_done : (opened : Journal) (files : Files) (entries : Vec Entry Global) → IsJournalOf files opened → CallsFor files (changes_of entries.items) → IsStandingEnd opened files (Ok entries)
  unfolding IsJournalOf IsStandingEnd
  standing_done closed files entries j called = elim called [
    | inl c ↦ ap (λ x. applied x files) c.1
    | inr read ↦ shut files read.opened j
  ]
  standing_done (pending cs) files entries j called = elim called [
    | inl c ↦ shut files j.opened c.0
    | inr read ↦ ap (λ x. applied x files) (one_batch files (changes_of entries.items) cs read j)
  ]
  standing_done (damaged at) files entries j called = absurd (not_called files at (changes_of entries.items) j called)

pub damage_is : OnePlace → NotCalled → (opened : Journal) (files : Files) (at : ℕ) → IsJournalOf files opened → IsDamaged files at → opened ≡ damaged at
unfolding IsJournalOf
damage_is one_place not_called closed files at j d = shut files d.opened j
damage_is one_place not_called (pending cs) files at j d = absurd (not_called files at cs d (inr j))
damage_is one_place not_called (damaged n) files at j d = ap damaged (one_place files n at j d)

pub recovery_stopped : (opened : Journal) (before after : Files) (s : Stop) → IsJournalStop opened s → IsRecoveryEnd opened before (Err s) after
unfolding IsRecoveryEnd
recovery_stopped closed before after s i = i
recovery_stopped (pending cs) before after s i = i
recovery_stopped (damaged at) before after s i = i

pub standing_stopped : (opened : Journal) (files : Files) (s : Stop) → IsJournalStop opened s → IsStandingEnd opened files (Err s)
unfolding IsStandingEnd
standing_stopped closed files s i = i
standing_stopped (pending cs) files s i = i
standing_stopped (damaged at) files s i = i
