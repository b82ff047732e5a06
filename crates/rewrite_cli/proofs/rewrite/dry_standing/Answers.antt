use Rattle.std.proofs.Common.{Err, subst, sym, ◌∙◌}
use Rattle.command_words.specs.Asking.{asked_told}
use Rattle.rewrite_cli.specs.Answers.{dry_answer}
use Rattle.journal_text.specs.Changes.{changes_of}
use Rattle.run_journal.specs.Standing.{applied}
use Rattle.rewrite_cli.specs.Statuses.{IsAnswered}
use Rattle.rewrite_cli.proofs.Performing.{dry_is, over_laid, standing_stop, standing_stopped}
use Rattle.rewrite_cli.proofs.rewrite.dry_standing.Goals as goal

pub returns-in-Ok-clause-answer : goal.returns-in-Ok-clause-answer
returns-in-Ok-clause-answer g c = λ told meanings are.
    let before = g.S.Store.files c.args.store.now in
    let asked = asked_told c.args.asked in
    let after = g.S.Store.files c.dry_run.new.store in
    subst (λ a. IsAnswered a c.dry_run.result after)
    (sym (dry_is meanings before asked ∙ over_laid (meanings.journal before) before c.in-Ok.entries (dry_answer meanings before asked) (c.in-Ok.ensures.end told meanings are)))
    (subst (λ es. IsAnswered (dry_answer meanings before asked (applied (changes_of es) before)) c.dry_run.result after) c.deref.ensures.value
    (subst (λ fs. IsAnswered (dry_answer meanings fs asked (applied (changes_of c.deref.result.now) fs)) c.dry_run.result after) c.standing_entries.ensures.files (c.dry_run.ensures.answer told meanings are)))

pub returns-in-Err-clause-answer : goal.returns-in-Err-clause-answer
returns-in-Err-clause-answer g c = λ told meanings are.
    let before = g.S.Store.files c.args.store.now in
    let asked = asked_told c.args.asked in
    let after = g.S.Store.files c.standing_entries.new.store in
    subst (λ a. IsAnswered a (Err c.in-Err.stop) after) (sym (dry_is meanings before asked))
    (standing_stopped before after (dry_answer meanings before asked) (meanings.journal before) c.in-Err.stop
    (standing_stop (meanings.journal before) before c.in-Err.stop (c.in-Err.ensures.end told meanings are)) c.standing_entries.ensures.files)
