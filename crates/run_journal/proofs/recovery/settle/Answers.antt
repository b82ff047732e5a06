use Rattle.std.proofs.Common.{◌∙◌}
use Rattle.journal_text.specs.Changes.{changes_of}
use Rattle.run_journal.proofs.Committing.{images_at_start, images_then, settle_leaves}
use Rattle.run_journal.proofs.recovery.settle.Goals as goal

pub returns-in_err-finish-clause-any_moment : goal.returns-in_err-finish-clause-any_moment
returns-in_err-finish-clause-any_moment g c told =
    let start = images_at_start g.S.Store.moment _ _ c.args.store.now (g.met.S.Store.only_now c.args.store.now) in
    let one = images_then _ _ _ _ _ _ start (c.make_room.ensures.crash told) in
    let two = images_then _ _ _ _ _ _ one (c.sync.ensures.crash told) in
    settle_leaves _ _ _ g.S.Store.files (changes_of c.args.entries.items) _ _ _
    (c.requires.pending (g.met.S.Store.told_together told)) (c.sync.ensures.files ∙ c.make_room.ensures.files) two
    (c.finish.ensures.any_moment told)

pub returns-clause-any_moment : goal.returns-clause-any_moment
returns-clause-any_moment g c told =
    let start = images_at_start g.S.Store.moment _ _ c.args.store.now (g.met.S.Store.only_now c.args.store.now) in
    let one = images_then _ _ _ _ _ _ start (c.make_room.ensures.crash told) in
    let two = images_then _ _ _ _ _ _ one (c.sync.ensures.crash told) in
    settle_leaves _ _ _ g.S.Store.files (changes_of c.args.entries.items) _ _ _
    (c.requires.pending (g.met.S.Store.told_together told)) (c.sync.ensures.files ∙ c.make_room.ensures.files) two
    (c.finish.ensures.any_moment told)
