use Rattle.std.proofs.Common.{inl, subst, sym}
use Rattle.journal_text.specs.Changes.{changes_of}
use Rattle.run_journal.specs.Standing.{OldOrNew}
use Rattle.rewrite_cli.specs.Moments.{IsLeftByBatch}
use Rattle.rewrite_cli.proofs.CommitSteps.{left_by}
use Rattle.rewrite_cli.proofs.Idling.{idle_leaves}
use Rattle.rewrite_cli.proofs.Moments.{joined, left_by_batch, settled, weaker}
use Rattle.rewrite_cli.proofs.commits.commit_checked.Goals as goal

pub returns-in_err-look_at_all-clause-any_moment : goal.returns-in_err-look_at_all-clause-any_moment
returns-in_err-look_at_all-clause-any_moment g c = λ told.
    let batch = changes_of c.args.batch.entries.items in
    let before = g.S.Store.files c.args.store.now in
    let P = IsLeftByBatch batch before in
    let start = settled before (c.requires.closed (g.met.S.Store.told_together told)) in
    idle_leaves g.S.Store.tells_images g.S.Store.is_unsynced g.S.Store.moment g.S.Store.left_since g.S.Store.image P c.args.store.now c.look_at_all.new.store told (g.met.S.Store.only_now c.args.store.now) (λ f i. subst P (sym (c.requires.one_image told f i)) (inl start)) c.look_at_all.ensures.idle

pub returns-clause-any_moment : goal.returns-clause-any_moment
returns-clause-any_moment g c = λ told.
    let batch = changes_of c.args.batch.entries.items in
    let before = g.S.Store.files c.args.store.now in
    let P = IsLeftByBatch batch before in
    let start = settled before (c.requires.closed (g.met.S.Store.told_together told)) in
    joined g.S.Store.moment g.S.Store.left_since g.S.Store.image P c.args.store.now c.look_at_all.new.store c.commit_batch.new.store
    (idle_leaves g.S.Store.tells_images g.S.Store.is_unsynced g.S.Store.moment g.S.Store.left_since g.S.Store.image P c.args.store.now c.look_at_all.new.store told (g.met.S.Store.only_now c.args.store.now) (λ f i. subst P (sym (c.requires.one_image told f i)) (inl start)) c.look_at_all.ensures.idle)
    (weaker g.S.Store.moment g.S.Store.left_since g.S.Store.image (OldOrNew batch (g.S.Store.files c.look_at_all.new.store)) P c.look_at_all.new.store c.commit_batch.new.store (c.commit_batch.ensures.any_moment told)
    (λ f o. left_by_batch batch before (g.S.Store.files c.look_at_all.new.store) f c.look_at_all.ensures.files (left_by batch (g.S.Store.files c.look_at_all.new.store) f (c.is_short.ensures.short c.if-not-is_short.false) o)))
