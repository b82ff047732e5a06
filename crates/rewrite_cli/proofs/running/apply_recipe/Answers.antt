use Rattle.std.proofs.Common.{inl, subst, sym}
use Rattle.command_words.specs.Asking.{asked_told}
use Rattle.rewrite_cli.specs.Moments.{IsLeftByRun}
use Rattle.rewrite_cli.specs.Prepared.{IsLeftByPrepared, IsRunEnd, batch_by}
use Rattle.rewrite_cli.proofs.Answering.{run_as}
use Rattle.rewrite_cli.proofs.Idling.{idle_leaves}
use Rattle.rewrite_cli.proofs.Moments.{commit_made, joined, prepared_left, settled, weaker}
use Rattle.rewrite_cli.proofs.running.apply_recipe.Goals as goal

pub returns-in-Ok-clause-answer : goal.returns-in-Ok-clause-answer
returns-in-Ok-clause-answer g c = λ told meanings are.
    let before = g.S.Store.files c.args.store.now in
    let asked = asked_told c.args.asked in
    run_as meanings before (g.S.Store.files c.commit_prepared.new.store) asked c.in-Ok.prepared c.commit_prepared.result (c.in-Ok.ensures.ready told meanings are)
    (subst (λ x. IsRunEnd asked c.in-Ok.prepared x c.commit_prepared.result (g.S.Store.files c.commit_prepared.new.store)) c.prepare.ensures.files (c.commit_prepared.ensures.end told))

pub returns-in-Ok-clause-any_moment : goal.returns-in-Ok-clause-any_moment
returns-in-Ok-clause-any_moment g c = λ told meanings are.
    let t = g.met.S.Store.told_together told in
    let before = g.S.Store.files c.args.store.now in
    let now = g.S.Store.files c.prepare.new.store in
    let asked = asked_told c.args.asked in
    let P = IsLeftByRun meanings asked before in
    joined g.S.Store.moment g.S.Store.left_since g.S.Store.image P c.args.store.now c.prepare.new.store c.commit_prepared.new.store
    (idle_leaves g.S.Store.tells_images g.S.Store.is_unsynced g.S.Store.moment g.S.Store.left_since g.S.Store.image P c.args.store.now c.prepare.new.store told (g.met.S.Store.only_now c.args.store.now)
    (λ f i. subst P (sym (c.requires.one_image told f i)) (inl (settled before (c.requires.closed t)))) c.prepare.ensures.idle)
    (weaker g.S.Store.moment g.S.Store.left_since g.S.Store.image (IsLeftByPrepared asked c.in-Ok.prepared now) P c.prepare.new.store c.commit_prepared.new.store (c.commit_prepared.ensures.any_moment told)
    (λ f l. prepared_left meanings before asked c.in-Ok.prepared (c.in-Ok.ensures.ready t meanings are)
    (commit_made (batch_by asked c.in-Ok.prepared) before (c.a_commit_makes_the_repository.ensures.closed (batch_by asked c.in-Ok.prepared) before) (c.a_commit_makes_the_repository.ensures.made (batch_by asked c.in-Ok.prepared) before)) f
    (subst (λ x. IsLeftByPrepared asked c.in-Ok.prepared x f) c.prepare.ensures.files l)))

pub returns-in-Err-clause-answer : goal.returns-in-Err-clause-answer
returns-in-Err-clause-answer g c = λ told meanings are. c.in-Err.ensures.stopped told meanings are

pub returns-in-Err-clause-any_moment : goal.returns-in-Err-clause-any_moment
returns-in-Err-clause-any_moment g c = λ told meanings are.
    let before = g.S.Store.files c.args.store.now in
    let P = IsLeftByRun meanings (asked_told c.args.asked) before in
    idle_leaves g.S.Store.tells_images g.S.Store.is_unsynced g.S.Store.moment g.S.Store.left_since g.S.Store.image P c.args.store.now c.prepare.new.store told (g.met.S.Store.only_now c.args.store.now)
    (λ f i. subst P (sym (c.requires.one_image told f i)) (inl (settled before (c.requires.closed (g.met.S.Store.told_together told))))) c.prepare.ensures.idle
