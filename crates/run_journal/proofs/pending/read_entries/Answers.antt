use Rattle.std.proofs.Common.{arith, ap, subst, sym, ◌∙◌}
use Rattle.std.specs.Option.{option_map}
use Rattle.journal_text.specs.Changes.{changes_of}
use Rattle.journal_text.specs.Reading.{HasNoReading, IsPlace, Reads}
use Rattle.run_journal.proofs.Reading.{front_place, front_reads, front_unread, if_ok_map, journal_found}
use Rattle.run_journal.proofs.pending.read_entries.Goals as goal

pub returns-in-Some-clause-reading : goal.returns-in-Some-clause-reading
returns-in-Some-clause-reading g c told =
    let found = sym (ap (option_map (λ v. v.items)) c.in-Some.is) ∙ c.in_ok-bytes.ensures.bytes told in
    let whole = c.deref.ensures.value ∙ journal_found 1073741825 _ _ _ found c.journal.ensures in
    if_ok_map c.entries_of.result _ _
    (λ entries reads. front_reads 1073741825 _ _ (omega arith)
    (subst (λ bytes. Reads bytes (changes_of entries.items)) whole reads))
    c.entries_of.ensures.reading

pub returns-in-Some-clause-damaged : goal.returns-in-Some-clause-damaged
returns-in-Some-clause-damaged g c told n is =
    let found = sym (ap (option_map (λ v. v.items)) c.in-Some.is) ∙ c.in_ok-bytes.ensures.bytes told in
    let whole = c.deref.ensures.value ∙ journal_found 1073741825 _ _ _ found c.journal.ensures in
    front_unread 1073741825 _ (omega arith) (subst HasNoReading whole (c.entries_of.ensures.unread n is))

pub returns-in-None-clause-damaged : goal.returns-in-None-clause-damaged
returns-in-None-clause-damaged g c told n is =
    let found = sym (ap (option_map (λ v. v.items)) c.in-None.is) ∙ c.in_ok-bytes.ensures.bytes told in
    front_unread 1073741825 _ (omega arith)
    (subst HasNoReading (journal_found 1073741825 _ _ _ found c.journal.ensures)
    (c.entries_of-in-None.ensures.unread n is))

pub returns-in-Some-clause-place : goal.returns-in-Some-clause-place
returns-in-Some-clause-place g c told n is =
    let found = sym (ap (option_map (λ v. v.items)) c.in-Some.is) ∙ c.in_ok-bytes.ensures.bytes told in
    let whole = c.deref.ensures.value ∙ journal_found 1073741825 _ _ _ found c.journal.ensures in
    front_place 1073741825 _ n (omega arith) (subst (λ b. IsPlace b n) whole (c.entries_of.ensures.place n is))

pub returns-in-None-clause-place : goal.returns-in-None-clause-place
returns-in-None-clause-place g c told n is =
    let found = sym (ap (option_map (λ v. v.items)) c.in-None.is) ∙ c.in_ok-bytes.ensures.bytes told in
    front_place 1073741825 _ n (omega arith)
    (subst (λ b. IsPlace b n) (journal_found 1073741825 _ _ _ found c.journal.ensures)
    (c.entries_of-in-None.ensures.place n is))
