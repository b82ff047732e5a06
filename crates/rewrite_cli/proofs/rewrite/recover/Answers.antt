use Rattle.std.proofs.Common.{Err, subst, sym, ◌∙◌}
use Rattle.command_words.specs.Words.{recover}
use Rattle.rewrite_cli.specs.Answers.{answer, recover_answer}
use Rattle.rewrite_cli.specs.Moments.{IsOldOrNew}
use Rattle.rewrite_cli.specs.Statuses.{IsAnswered}
use Rattle.rewrite_cli.proofs.Moments.{old_or_alike, weaker}
use Rattle.rewrite_cli.proofs.Performing.{as_recovered, count_now, journal_stop, kept_before, over_now, recover_ended, recover_is, recovered_stopped}
use Rattle.rewrite_cli.proofs.rewrite.recover.Goals as goal

pub returns-in-Ok-clause-answer : goal.returns-in-Ok-clause-answer
returns-in-Ok-clause-answer g c = λ told meanings are.
    let before = g.S.Store.files c.args.store.now in
    let now = g.S.Store.files c.recover_first.new.store in
    let opened = meanings.journal before in
    let end = c.in-Ok.ensures.end told meanings are in
    subst (λ a. IsAnswered a c.recovered.result now) (sym (recover_is meanings before ∙ over_now opened before now _ (recover_answer opened) end))
    (recover_ended opened now c.in-Ok.count c.recovered.result (count_now opened before now c.in-Ok.count end) c.recovered.ensures.text c.recovered.ensures.silent c.recovered.ensures.memory)

pub returns-in-Ok-clause-any_moment : goal.returns-in-Ok-clause-any_moment
returns-in-Ok-clause-any_moment g c = λ told meanings are each.
    let before = g.S.Store.files c.args.store.now in
    let images = g.S.Store.image c.args.store.now in
    let left = (answer meanings before recover).left in
    weaker g.S.Store.moment g.S.Store.left_since g.S.Store.image _ (IsOldOrNew images left) c.args.store.now c.recover_first.new.store (c.recover_first.ensures.any_moment told)
    (old_or_alike images before left each (g.met.S.Store.reads_are_left c.args.store.now))

pub returns-in-Ok-clause-unchanged : goal.returns-in-Ok-clause-unchanged
returns-in-Ok-clause-unchanged g c = λ told meanings are.
    let before = g.S.Store.files c.args.store.now in
    let now = g.S.Store.files c.recover_first.new.store in
    kept_before c.recovered.result (meanings.journal before) before now (as_recovered (meanings.journal before) before now _ (c.in-Ok.ensures.end told meanings are))

pub returns-in-Err-clause-answer : goal.returns-in-Err-clause-answer
returns-in-Err-clause-answer g c = λ told meanings are.
    let before = g.S.Store.files c.args.store.now in
    let after = g.S.Store.files c.recover_first.new.store in
    let opened = meanings.journal before in
    subst (λ a. IsAnswered a (Err c.in-Err.stop) after) (sym (recover_is meanings before))
    (recovered_stopped before after (recover_answer opened) opened c.in-Err.stop (journal_stop opened before after c.in-Err.stop (c.in-Err.ensures.end told meanings are)) c.in-Err.ensures.unchanged)

pub returns-in-Err-clause-any_moment : goal.returns-in-Err-clause-any_moment
returns-in-Err-clause-any_moment g c = λ told meanings are each.
    let before = g.S.Store.files c.args.store.now in
    let images = g.S.Store.image c.args.store.now in
    let left = (answer meanings before recover).left in
    weaker g.S.Store.moment g.S.Store.left_since g.S.Store.image _ (IsOldOrNew images left) c.args.store.now c.recover_first.new.store (c.recover_first.ensures.any_moment told)
    (old_or_alike images before left each (g.met.S.Store.reads_are_left c.args.store.now))
