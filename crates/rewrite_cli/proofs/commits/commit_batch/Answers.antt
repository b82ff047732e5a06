use Rattle.std.proofs.Common.{ap, arith, inl, length}
use Rattle.journal_text.specs.Changes.{changes_of}
use Rattle.run_journal.specs.Standing.{OldOrNew}
use Rattle.rewrite_cli.proofs.Batches.{length_changes}
use Rattle.rewrite_cli.proofs.Moments.{begun, joined, old_or_new, settled, still, weaker}
use Rattle.rewrite_cli.proofs.commits.commit_batch.Goals as goal

pub commit-requires-clause-room : goal.commit-requires-clause-room
commit-requires-clause-room g c =
    let sealed = ap length c.in_ok-sealed.ensures in
    let same = length_changes c.args.batch.entries.items in
    omega (arith, sealed, same, c.in_ok-room.ensures, c.in_ok-reserve.ensures.room)

pub returns-in_err-reserve-clause-any_moment : goal.returns-in_err-reserve-clause-any_moment
returns-in_err-reserve-clause-any_moment g c = λ told.
    let batch = changes_of c.args.batch.entries.items in
    let before = g.S.Store.files c.args.store.now in
    let P = OldOrNew batch before in
    still g.S.Store.moment g.S.Store.left_since g.S.Store.image P c.args.store.now c.args.store.now c.reserve.new.self
    (begun g.S.Store.moment g.S.Store.left_since g.S.Store.image P c.args.store.now before (g.met.S.Store.only_now c.args.store.now) (c.requires.one_image told) (inl (settled before (c.requires.closed (g.met.S.Store.told_together told)))))
    (c.reserve.ensures.crash told)

pub returns-clause-any_moment : goal.returns-clause-any_moment
returns-clause-any_moment g c = λ told.
    let batch = changes_of c.args.batch.entries.items in
    let before = g.S.Store.files c.args.store.now in
    let P = OldOrNew batch before in
    joined g.S.Store.moment g.S.Store.left_since g.S.Store.image P c.args.store.now c.reserve.new.self c.commit.new.store
    (still g.S.Store.moment g.S.Store.left_since g.S.Store.image P c.args.store.now c.args.store.now c.reserve.new.self
    (begun g.S.Store.moment g.S.Store.left_since g.S.Store.image P c.args.store.now before (g.met.S.Store.only_now c.args.store.now) (c.requires.one_image told) (inl (settled before (c.requires.closed (g.met.S.Store.told_together told)))))
    (c.reserve.ensures.crash told))
    (weaker g.S.Store.moment g.S.Store.left_since g.S.Store.image (OldOrNew c.in_ok-sealed.sealed (g.S.Store.files c.reserve.new.self)) P c.reserve.new.self c.commit.new.store (c.commit.ensures.any_moment told)
    (λ f o. old_or_new c.in_ok-sealed.sealed batch before (g.S.Store.files c.reserve.new.self) f c.in_ok-sealed.ensures c.reserve.ensures.files o))

pub returns-in_err-commit-clause-any_moment : goal.returns-in_err-commit-clause-any_moment
returns-in_err-commit-clause-any_moment g c = λ told.
    let batch = changes_of c.args.batch.entries.items in
    let before = g.S.Store.files c.args.store.now in
    let P = OldOrNew batch before in
    joined g.S.Store.moment g.S.Store.left_since g.S.Store.image P c.args.store.now c.reserve.new.self c.commit.new.store
    (still g.S.Store.moment g.S.Store.left_since g.S.Store.image P c.args.store.now c.args.store.now c.reserve.new.self
    (begun g.S.Store.moment g.S.Store.left_since g.S.Store.image P c.args.store.now before (g.met.S.Store.only_now c.args.store.now) (c.requires.one_image told) (inl (settled before (c.requires.closed (g.met.S.Store.told_together told)))))
    (c.reserve.ensures.crash told))
    (weaker g.S.Store.moment g.S.Store.left_since g.S.Store.image (OldOrNew c.in_ok-sealed.sealed (g.S.Store.files c.reserve.new.self)) P c.reserve.new.self c.commit.new.store (c.commit.ensures.any_moment told)
    (λ f o. old_or_new c.in_ok-sealed.sealed batch before (g.S.Store.files c.reserve.new.self) f c.in_ok-sealed.ensures c.reserve.ensures.files o))
