use Rattle.rewrite_cli.proofs.Idling.{idle_leaves}
use Rattle.rewrite_cli.proofs.Moments.{image_old}
use Rattle.rewrite_cli.proofs.rewrite.perform.Goals as goal

pub returns-in-Dry-clause-any_moment : goal.returns-in-Dry-clause-any_moment
returns-in-Dry-clause-any_moment g c = λ told meanings are each.
    let images = g.S.Store.image c.args.store.now in
    idle_leaves g.S.Store.tells_images g.S.Store.is_unsynced g.S.Store.moment g.S.Store.left_since g.S.Store.image _ c.args.store.now c.dry_standing.new.store told (g.met.S.Store.only_now c.args.store.now)
    (image_old images (g.S.Store.files c.args.store.now) _ each (g.met.S.Store.reads_are_left c.args.store.now)) c.dry_standing.ensures.idle

pub returns-in-Check-clause-any_moment : goal.returns-in-Check-clause-any_moment
returns-in-Check-clause-any_moment g c = λ told meanings are each.
    let images = g.S.Store.image c.args.store.now in
    idle_leaves g.S.Store.tells_images g.S.Store.is_unsynced g.S.Store.moment g.S.Store.left_since g.S.Store.image _ c.args.store.now c.check_standing.new.store told (g.met.S.Store.only_now c.args.store.now)
    (image_old images (g.S.Store.files c.args.store.now) _ each (g.met.S.Store.reads_are_left c.args.store.now)) c.check_standing.ensures.idle

pub returns-in-History-clause-any_moment : goal.returns-in-History-clause-any_moment
returns-in-History-clause-any_moment g c = λ told meanings are each.
    let images = g.S.Store.image c.args.store.now in
    idle_leaves g.S.Store.tells_images g.S.Store.is_unsynced g.S.Store.moment g.S.Store.left_since g.S.Store.image _ c.args.store.now c.history_standing.new.store told (g.met.S.Store.only_now c.args.store.now)
    (image_old images (g.S.Store.files c.args.store.now) _ each (g.met.S.Store.reads_are_left c.args.store.now)) c.history_standing.ensures.idle
