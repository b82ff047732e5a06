use Rattle.std.proofs.Common.{Err, subst, sym, ◌∙◌}
use Rattle.rewrite_cli.specs.Answers.{check_answer}
use Rattle.journal_text.specs.Changes.{changes_of}
use Rattle.run_journal.specs.Standing.{applied}
use Rattle.rewrite_cli.specs.Statuses.{IsAnswered}
use Rattle.rewrite_cli.proofs.Performing.{check_is, over_laid, standing_stop, standing_stopped}
use Rattle.rewrite_cli.proofs.rewrite.check_standing.Goals as goal

pub returns-in-Ok-clause-answer : goal.returns-in-Ok-clause-answer
returns-in-Ok-clause-answer g c = λ told meanings are.
    let before = g.S.Store.files c.args.store.now in
    let after = g.S.Store.files c.check_repository.new.store in
    subst (λ a. IsAnswered a c.check_repository.result after)
    (sym (check_is meanings before ∙ over_laid (meanings.journal before) before c.in-Ok.entries (check_answer meanings before) (c.in-Ok.ensures.end told meanings are)))
    (subst (λ es. IsAnswered (check_answer meanings before (applied (changes_of es) before)) c.check_repository.result after) c.deref.ensures.value
    (subst (λ fs. IsAnswered (check_answer meanings fs (applied (changes_of c.deref.result.now) fs)) c.check_repository.result after) c.standing_entries.ensures.files (c.check_repository.ensures.answer told meanings are)))

pub returns-in-Err-clause-answer : goal.returns-in-Err-clause-answer
returns-in-Err-clause-answer g c = λ told meanings are.
    let before = g.S.Store.files c.args.store.now in
    let after = g.S.Store.files c.standing_entries.new.store in
    subst (λ a. IsAnswered a (Err c.in-Err.stop) after) (sym (check_is meanings before))
    (standing_stopped before after (check_answer meanings before) (meanings.journal before) c.in-Err.stop
    (standing_stop (meanings.journal before) before c.in-Err.stop (c.in-Err.ensures.end told meanings are)) c.standing_entries.ensures.files)
