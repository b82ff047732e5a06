use Rattle.std.proofs.Common.{Err, ap, subst, ◌∙◌}
use Rattle.rewrite_cli.specs.Answers.{check_answer}
use Rattle.rewrite_cli.specs.Journals.{laid}
use Rattle.rewrite_cli.specs.Statuses.{IsAnswered}
use Rattle.rewrite_cli.proofs.Answering.{check_stopped}
use Rattle.rewrite_cli.proofs.checking.check_repository.Goals as goal

pub returns-in-Ok-clause-answer : goal.returns-in-Ok-clause-answer
returns-in-Ok-clause-answer g c = λ told meanings are.
    subst (λ fs. IsAnswered (check_answer meanings fs (laid c.args.entries.now fs)) c.check_listed.result (g.S.Store.files c.check_listed.new.store)) c.list_paths.ensures.store_files
    (c.check_listed.ensures.answer told meanings are)

pub returns-in-Err-clause-answer : goal.returns-in-Err-clause-answer
returns-in-Err-clause-answer g c = λ told meanings are.
    let before = g.S.Store.files c.args.store.now in
    check_stopped meanings before (laid c.args.entries.now before) (g.S.Store.files c.list_paths.new.store) c.in-Err.stop c.in-Err.ensures.stop
    (λ l e. c.list_paths.ensures.past_limit told l (c.in-Err.is ∙ ap Err e)) c.list_paths.ensures.store_files
