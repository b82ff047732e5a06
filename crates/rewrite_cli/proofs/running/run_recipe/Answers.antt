use Rattle.std.proofs.Common.{Err, ap, ◌∙◌}
use Rattle.std.proofs.lemmas.Result.{err_from_is_err_and}
use Rattle.command_words.specs.Asking.{asked_told}
use Rattle.rewrite_cli.specs.Journals.{laid}
use Rattle.rewrite_cli.proofs.Performing.{run_end, fault_of_run, opening_is, fault_not_read, stopped_end}
use Rattle.rewrite_cli.proofs.running.run_recipe.Goals as goal

pub returns-in-Ok-clause-end : goal.returns-in-Ok-clause-end
returns-in-Ok-clause-end g c = λ told meanings are.
    let files = laid c.args.entries.now (g.S.Store.files c.args.store.now) in
    run_end meanings files (asked_told c.args.asked) c.in_ok-plan.plan c.in_ok-kept.kept
    (c.in_ok-plan.ensures.plan told meanings are)
    (c.in_ok-kept.ensures meanings.read are.read ∙ opening_is meanings files c.args.sources.files.items (c.requires.sources told))
    _ (c.in-Ok.ensures.done meanings.read are.read) (c.in-Ok.ensures.cycles meanings.read are.read) (c.in-Ok.ensures.still meanings.read are.read)
    (c.in_ok-first.ensures ∙ c.files.ensures.files)
    (c.in_ok-refused.ensures meanings.read are.read files
    (c.in_ok-kept.ensures meanings.read are.read ∙ opening_is meanings files c.args.sources.files.items (c.requires.sources told)) (c.requires.stubs told))

pub returns-clause-end : goal.returns-clause-end
returns-clause-end g c = λ told meanings are.
    let files = laid c.args.entries.now (g.S.Store.files c.args.store.now) in
    fault_of_run meanings files (asked_told c.args.asked) c.in_ok-plan.plan c.in_ok-kept.kept
    (c.in_ok-plan.ensures.plan told meanings are)
    (c.in_ok-kept.ensures meanings.read are.read ∙ opening_is meanings files c.args.sources.files.items (c.requires.sources told))
    c.in-Err.fault c.stop_of.result (λ bytes e. (c.run_plan.new.kept, c.run_plan.ensures.too_much meanings.read are.read bytes (c.in-Err.is ∙ ap Err e))) c.stop_of.ensures

pub returns-clause-cause : goal.returns-clause-cause
returns-clause-cause g c = λ e. absurd (fault_not_read c.in-Err.fault c.stop_of.result c.stop_of.ensures e)

pub returns-in_err-refused-clause-end : goal.returns-in_err-refused-clause-end
returns-in_err-refused-clause-end g c = λ told meanings are.
    let p = err_from_is_err_and c.from_residual-in_err-refused.result c.from_residual-in_err-refused.ensures.1 in
    stopped_end _ _ p.0 p.1 p.2

pub returns-in_err-first-clause-end : goal.returns-in_err-first-clause-end
returns-in_err-first-clause-end g c = λ told meanings are.
    let p = err_from_is_err_and c.from_residual-in_err-first.result c.from_residual-in_err-first.ensures.1 in
    stopped_end _ _ p.0 p.1 p.2
