use Rattle.std.proofs.Common.{Err, ap, subst, sym, ◌∙◌}
use Rattle.command_words.specs.Asking.{asked_told}
use Rattle.command_words.specs.Words.{apply}
use Rattle.rewrite_cli.specs.Answers.{Answer, answer, run_answer}
use Rattle.rewrite_cli.specs.Moments.{IsOldOrNew}
use Rattle.rewrite_cli.specs.Statuses.{IsAnswered}
use Rattle.rewrite_cli.proofs.Moments.{joined, old_or_alike, run_old_or_new, weaker}
use Rattle.rewrite_cli.proofs.Performing.{apply_is, as_before, as_recovered, journal_stop, over_now, recovered_stopped}
use Rattle.rewrite_cli.proofs.rewrite.run.Goals as goal

pub returns-in-Ok-clause-answer : goal.returns-in-Ok-clause-answer
returns-in-Ok-clause-answer g c = λ told meanings are.
    let before = g.S.Store.files c.args.store.now in
    let now = g.S.Store.files c.recover_first.new.store in
    let asked = asked_told c.args.asked in
    subst (λ a. IsAnswered a c.apply_recipe.result (g.S.Store.files c.apply_recipe.new.store))
    (sym (apply_is meanings before asked ∙ over_now (meanings.journal before) before now _ (run_answer meanings asked) (c.in-Ok.ensures.end told meanings are)))
    (c.apply_recipe.ensures.answer told meanings are)

pub returns-in-Ok-clause-any_moment : goal.returns-in-Ok-clause-any_moment
returns-in-Ok-clause-any_moment g c = λ told meanings are each.
    let t = g.met.S.Store.told_together told in
    let before = g.S.Store.files c.args.store.now in
    let now = g.S.Store.files c.recover_first.new.store in
    let asked = asked_told c.args.asked in
    let images = g.S.Store.image c.args.store.now in
    let left = (answer meanings before (apply asked)).left in
    let here = g.met.S.Store.reads_are_left c.args.store.now in
    let is = ap (λ (a : Answer). a.left) (apply_is meanings before asked ∙ over_now (meanings.journal before) before now _ (run_answer meanings asked) (c.in-Ok.ensures.end t meanings are)) in
    joined g.S.Store.moment g.S.Store.left_since g.S.Store.image (IsOldOrNew images left) c.args.store.now c.recover_first.new.store c.apply_recipe.new.store
    (weaker g.S.Store.moment g.S.Store.left_since g.S.Store.image _ (IsOldOrNew images left) c.args.store.now c.recover_first.new.store (c.recover_first.ensures.any_moment told) (old_or_alike images before left each here))
    (weaker g.S.Store.moment g.S.Store.left_since g.S.Store.image _ (IsOldOrNew images left) c.recover_first.new.store c.apply_recipe.new.store (c.apply_recipe.ensures.any_moment told meanings are)
    (run_old_or_new images before left each here meanings asked now (c.in-Ok.ensures.closed t) (c.in-Ok.ensures.stands t) is))

pub returns-in-Ok-clause-unchanged : goal.returns-in-Ok-clause-unchanged
returns-in-Ok-clause-unchanged g c = λ told meanings are.
    let before = g.S.Store.files c.args.store.now in
    let now = g.S.Store.files c.recover_first.new.store in
    as_before c.apply_recipe.result (meanings.journal before) before now (g.S.Store.files c.apply_recipe.new.store)
    (as_recovered (meanings.journal before) before now _ (c.in-Ok.ensures.end told meanings are)) c.apply_recipe.ensures.unchanged

pub returns-in-Err-clause-answer : goal.returns-in-Err-clause-answer
returns-in-Err-clause-answer g c = λ told meanings are.
    let before = g.S.Store.files c.args.store.now in
    let after = g.S.Store.files c.recover_first.new.store in
    let asked = asked_told c.args.asked in
    subst (λ a. IsAnswered a (Err c.in-Err.stop) after) (sym (apply_is meanings before asked))
    (recovered_stopped before after (run_answer meanings asked) (meanings.journal before) c.in-Err.stop
    (journal_stop (meanings.journal before) before after c.in-Err.stop (c.in-Err.ensures.end told meanings are)) c.in-Err.ensures.unchanged)

pub returns-in-Err-clause-any_moment : goal.returns-in-Err-clause-any_moment
returns-in-Err-clause-any_moment g c = λ told meanings are each.
    let before = g.S.Store.files c.args.store.now in
    let images = g.S.Store.image c.args.store.now in
    let left = (answer meanings before (apply (asked_told c.args.asked))).left in
    weaker g.S.Store.moment g.S.Store.left_since g.S.Store.image _ (IsOldOrNew images left) c.args.store.now c.recover_first.new.store (c.recover_first.ensures.any_moment told)
    (old_or_alike images before left each (g.met.S.Store.reads_are_left c.args.store.now))
