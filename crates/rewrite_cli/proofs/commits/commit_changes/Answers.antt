use Rattle.std.proofs.Common.{[], ap, refl, subst, sym, ◌∙◌}
use Rattle.journal_text.specs.Changes.{AllFree, ArePaths, Rises, changes_of}
use Rattle.command_words.specs.Asking.{asked_told}
use Rattle.rewrite_cli.specs.Answers.{run_batch}
use Rattle.rewrite_cli.specs.Changes.{batch_of}
use Rattle.rewrite_cli.specs.Ends.{IsBatchEnd, ran_told}
use Rattle.rewrite_cli.specs.Moments.{IsLeftByBatch, IsLeftByCommit}
use Rattle.rewrite_cli.proofs.CommitSteps.{commit_none, commit_some, left_commit, left_commit_old, no_entries, run_free, run_rises}
use Rattle.rewrite_cli.proofs.Moments.{begun, settled, weaker}
use Rattle.rewrite_cli.proofs.commits.commit_changes.Goals as goal

pub returns-in_err-batch-clause-any_moment : goal.returns-in_err-batch-clause-any_moment
returns-in_err-batch-clause-any_moment g c = λ told.
    let written = batch_of c.args.changes.now in
    let whole = run_batch c.args.runs.now (asked_told c.args.asked) (ran_told c.args.ran.now) in
    let before = g.S.Store.files c.args.store.now in
    begun g.S.Store.moment g.S.Store.left_since g.S.Store.image (IsLeftByCommit written whole before) c.args.store.now before (g.met.S.Store.only_now c.args.store.now) (c.requires.one_image told)
    (left_commit_old written whole before before (settled before (c.requires.closed (g.met.S.Store.told_together told))))

pub returns-then-is_nothing-clause-any_moment : goal.returns-then-is_nothing-clause-any_moment
returns-then-is_nothing-clause-any_moment g c = λ told.
    let written = batch_of c.args.changes.now in
    let whole = run_batch c.args.runs.now (asked_told c.args.asked) (ran_told c.args.ran.now) in
    let before = g.S.Store.files c.args.store.now in
    begun g.S.Store.moment g.S.Store.left_since g.S.Store.image (IsLeftByCommit written whole before) c.args.store.now before (g.met.S.Store.only_now c.args.store.now) (c.requires.one_image told)
    (left_commit_old written whole before before (settled before (c.requires.closed (g.met.S.Store.told_together told))))

pub returns-in_err-add_history-clause-any_moment : goal.returns-in_err-add_history-clause-any_moment
returns-in_err-add_history-clause-any_moment g c = λ told.
    let written = batch_of c.args.changes.now in
    let whole = run_batch c.args.runs.now (asked_told c.args.asked) (ran_told c.args.ran.now) in
    let before = g.S.Store.files c.args.store.now in
    begun g.S.Store.moment g.S.Store.left_since g.S.Store.image (IsLeftByCommit written whole before) c.args.store.now before (g.met.S.Store.only_now c.args.store.now) (c.requires.one_image told)
    (left_commit_old written whole before before (settled before (c.requires.closed (g.met.S.Store.told_together told))))

pub returns-then-is_nothing-clause-end : goal.returns-then-is_nothing-clause-end
returns-then-is_nothing-clause-end g c = λ told.
    let written = batch_of c.args.changes.now in
    let whole = run_batch c.args.runs.now (asked_told c.args.asked) (ran_told c.args.ran.now) in
    let before = g.S.Store.files c.args.store.now in
    commit_none whole before before written _ (sym c.in_ok-batch.ensures ∙ ap changes_of (sym c.deref.ensures.value ∙ c.is_nothing.ensures.none c.if-is_nothing.true)) refl

pub commit_checked-requires-clause-rises : goal.commit_checked-requires-clause-rises
commit_checked-requires-clause-rises g c =
    subst (Rises []) (sym c.in_ok-add_history.ensures.batch)
    (run_rises c.args.runs.now (asked_told c.args.asked) (ran_told c.args.ran.now) c.requires.first c.requires.last
    (subst (λ cs. ArePaths (batch_of cs)) c.requires.changes c.in_ok-add_history.ensures.paths))

pub commit_checked-requires-clause-free : goal.commit_checked-requires-clause-free
commit_checked-requires-clause-free g c =
    subst AllFree (sym c.in_ok-add_history.ensures.batch) (run_free c.args.runs.now (asked_told c.args.asked) (ran_told c.args.ran.now))

pub returns-clause-end : goal.returns-clause-end
returns-clause-end g c = λ told.
    let written = batch_of c.args.changes.now in
    let whole = run_batch c.args.runs.now (asked_told c.args.asked) (ran_told c.args.ran.now) in
    let before = g.S.Store.files c.args.store.now in
    commit_some whole before (g.S.Store.files c.commit_checked.new.store) written c.commit_checked.result (λ e. c.is_nothing.ensures.some c.if-is_nothing.false (c.deref.ensures.value ∙ no_entries c.in_ok-batch.batch.entries.items (c.in_ok-batch.ensures ∙ e)))
    (subst (λ b. IsBatchEnd b before c.commit_checked.result (g.S.Store.files c.commit_checked.new.store)) c.in_ok-add_history.ensures.batch (c.commit_checked.ensures.end told))

pub returns-clause-any_moment : goal.returns-clause-any_moment
returns-clause-any_moment g c = λ told.
    let written = batch_of c.args.changes.now in
    let whole = run_batch c.args.runs.now (asked_told c.args.asked) (ran_told c.args.ran.now) in
    let before = g.S.Store.files c.args.store.now in
    weaker g.S.Store.moment g.S.Store.left_since g.S.Store.image (IsLeftByBatch (changes_of c.add_history.new.batch.entries.items) before) (IsLeftByCommit written whole before) c.args.store.now c.commit_checked.new.store
    (c.commit_checked.ensures.any_moment told)
    (λ f l. left_commit written whole before f (λ e. c.is_nothing.ensures.some c.if-is_nothing.false (c.deref.ensures.value ∙ no_entries c.in_ok-batch.batch.entries.items (c.in_ok-batch.ensures ∙ e))) (subst (λ b. IsLeftByBatch b before f) c.in_ok-add_history.ensures.batch l))
