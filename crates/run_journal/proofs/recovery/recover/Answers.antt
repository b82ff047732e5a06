use Rattle.std.proofs.Common.{◌≡◌, IfNone, IfSome, OnOk, false, subst, ◌∙◌}
use Rattle.std.specs.FinMap as map
use Rattle.journal_text.specs.Changes.{changes_of, gate}
use Rattle.run_journal.specs.Standing.{IsRead, applied, is_open}
use Rattle.run_journal.proofs.Committing.{closed_alike, recover_leaves, settled_number, settled_stands}
use Rattle.run_journal.proofs.recovery.recover.Goals as goal

pub returns-in-Some-clause-any_moment : goal.returns-in-Some-clause-any_moment
returns-in-Some-clause-any_moment g c told =
    recover_leaves _ _ _ g.S.Store.files _ _ _ c.pending.ensures.files (c.pending.ensures.images told)
    (c.settle.ensures.any_moment told)

pub returns-in-Some-clause-files : goal.returns-in-Some-clause-files
returns-in-Some-clause-files g c told =
    let start = g.S.Store.files c.args.store.now in
    let changes = changes_of c.in-Some.entries.items in
    let read : IsRead start changes
    = subst (λ found. IfSome found (λ entries. IsRead start (changes_of entries.items))) c.in-Some.is
    (c.in_ok-entries.ensures.read told) in
    settled_number c.settle.result changes start (g.S.Store.files c.settle.new.store) read
    c.settle.ensures.number
    (subst
    (λ files. OnOk c.settle.result (g.S.Store.files c.settle.new.store ≡ map.remove (applied changes files) gate))
    c.pending.ensures.files (c.settle.ensures.files told))

pub returns-in-Some-clause-stands : goal.returns-in-Some-clause-stands
returns-in-Some-clause-stands g c told =
    let start = g.S.Store.files c.args.store.now in
    let changes = changes_of c.in-Some.entries.items in
    let read : IsRead start changes
    = subst (λ found. IfSome found (λ entries. IsRead start (changes_of entries.items))) c.in-Some.is
    (c.in_ok-entries.ensures.read told) in
    settled_stands c.settle.result changes start (g.S.Store.files c.settle.new.store) read
    (subst
    (λ files. OnOk c.settle.result (g.S.Store.files c.settle.new.store ≡ map.remove (applied changes files) gate))
    c.pending.ensures.files (c.settle.ensures.files told))

pub returns-in_ok-sync-in-None-clause-stands : goal.returns-in_ok-sync-in-None-clause-stands
returns-in_ok-sync-in-None-clause-stands g c told =
    let start = g.S.Store.files c.args.store.now in
    closed_alike start _
    (subst (λ found. IfNone found (is_open start ≡ false)) c.in-None.is (c.in_ok-entries.ensures.closed told))
    (c.sync.ensures.files ∙ c.pending.ensures.files)
