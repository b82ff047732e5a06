use Rattle.std.proofs.Common.{Err, ap, ◌∙◌}
use Rattle.rewrite_cli.specs.Journals.{laid}
use Rattle.rewrite_cli.proofs.Answering.{check_stopped}
use Rattle.rewrite_cli.proofs.SourceSteps.{all_past}
use Rattle.rewrite_cli.proofs.checking.check_listed.Goals as goal

pub returns-in-Err-clause-answer : goal.returns-in-Err-clause-answer
returns-in-Err-clause-answer g c = λ told meanings are.
    let before = g.S.Store.files c.args.store.now in
    check_stopped meanings before (laid c.args.entries.now before) (g.S.Store.files c.check_files.new.store) c.in-Err.stop c.in-Err.ensures.stop
    (λ l e. all_past before (laid c.args.entries.now before) c.args.paths.items (c.requires.listed told) (c.requires.few_listed told) (c.requires.few_paths told) (c.requires.few_files told) l
    (c.check_files.ensures.past_limit told l (c.in-Err.is ∙ ap Err e))) c.check_files.ensures.files
