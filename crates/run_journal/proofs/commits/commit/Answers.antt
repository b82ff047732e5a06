use Rattle.std.proofs.Common.{◌≤◌, ◌∷◌, [], ap, length, refl, subst, ◌∙◌}
use Rattle.std.specs.FinMap as map
use Rattle.rw_host.specs.CrashLaws.{leaves_join}
use Rattle.journal_text.specs.Changes.{gate}
use Rattle.journal_text.specs.Reading.{Reads}
use Rattle.journal_text.specs.Text.{journal_text}
use Rattle.run_journal.proofs.Committing.{gate_leaves, journal_leaves, last_leaves, sealed_reads, written}
use Rattle.run_journal.proofs.commits.commit.Goals as goal

pub returns-in_err-put_synced-clause-any_moment : goal.returns-in_err-put_synced-clause-any_moment
returns-in_err-put_synced-clause-any_moment g c told =
    let start = g.S.Store.files c.args.store.now in
    let parts = c.into_parts-entries.ensures in
    journal_leaves _ _ _ g.S.Store.files c.args.sealed start _ _ _ (c.requires.closed (g.met.S.Store.told_together told))
    parts.journal_path refl (c.put_synced.ensures.any_moment told)

pub returns-in_err-put_synced-2-clause-any_moment : goal.returns-in_err-put_synced-2-clause-any_moment
returns-in_err-put_synced-2-clause-any_moment g c told =
    let files_told = g.met.S.Store.told_together told in
    let start = g.S.Store.files c.args.store.now in
    let parts = c.into_parts-entries.ensures in
    let reading : Reads (journal_text c.args.sealed) c.args.sealed
    = sealed_reads _ _ parts.batch parts.text parts.size in
    let one = journal_leaves _ _ _ g.S.Store.files c.args.sealed start _ _ _ (c.requires.closed files_told)
    parts.journal_path refl (c.put_synced.ensures.any_moment told) in
    let has_journal =
    written start _ _ _ _ _ (c.in_ok-put_synced.ensures.files files_told) parts.journal_path parts.text in
    let two = gate_leaves _ _ _ g.S.Store.files c.args.sealed start _ _ _ reading parts.gate_path has_journal
    (c.put_synced-2.ensures.any_moment told) in
    leaves_join _ _ _ _ _ _ _ _ _ one two

pub returns-clause-any_moment : goal.returns-clause-any_moment
returns-clause-any_moment g c told =
    let files_told = g.met.S.Store.told_together told in
    let start = g.S.Store.files c.args.store.now in
    let parts = c.into_parts-entries.ensures in
    let reading : Reads (journal_text c.args.sealed) c.args.sealed
    = sealed_reads _ _ parts.batch parts.text parts.size in
    let one = journal_leaves _ _ _ g.S.Store.files c.args.sealed start _ _ _ (c.requires.closed files_told)
    parts.journal_path refl (c.put_synced.ensures.any_moment told) in
    let has_journal =
    written start _ _ _ _ _ (c.in_ok-put_synced.ensures.files files_told) parts.journal_path parts.text in
    let two = gate_leaves _ _ _ g.S.Store.files c.args.sealed start _ _ _ reading parts.gate_path has_journal
    (c.put_synced-2.ensures.any_moment told) in
    let has_gate = written _ _ _ _ _ _ (c.in_ok-put_synced-2.ensures.files files_told) parts.gate_path parts.gate_byte
    ∙ ap (λ files. map.insert files gate (49 ∷ [])) has_journal in
    let three = last_leaves _ _ _ g.S.Store.files c.args.sealed _ start _ _ reading parts.entries has_gate
    (c.finish.ensures.any_moment told) in
    leaves_join _ _ _ _ _ _ _ _ _ (leaves_join _ _ _ _ _ _ _ _ _ one two) three
