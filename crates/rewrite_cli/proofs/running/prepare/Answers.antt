use Rattle.std.proofs.Common.{Err, Ok, ap, subst, sym, ◌∙◌}
use Rattle.command_words.specs.Asking.{asked_told}
use Rattle.rewrite_cli.specs.Ends.{IsEnd}
use Rattle.rewrite_cli.specs.Histories.{history_bytes}
use Rattle.rewrite_cli.specs.Running.{ended}
use Rattle.rewrite_cli.proofs.Answering.{ready, run_ended}
use Rattle.rewrite_cli.proofs.HistorySteps.{rows_are}
use Rattle.rewrite_cli.proofs.running.prepare.Goals as goal

pub returns-in-Err-clause-stopped : goal.returns-in-Err-clause-stopped
returns-in-Err-clause-stopped g c = λ told meanings are.
    let before = g.S.Store.files c.args.store.now in
    let asked = asked_told c.args.asked in
    let to_history = c.read_sources.ensures.store_files in
    let to_run = c.runs_of.ensures.files ∙ to_history in
    run_ended meanings before (g.S.Store.files c.run_recipe.new.store) asked (c.in_ok-sources.ensures.in_limits told) c.in_ok-runs.runs.items
    (ap (λ fs. meanings.history (history_bytes fs)) (sym to_history) ∙ rows_are (meanings.history (history_bytes (g.S.Store.files c.read_sources.new.store))) c.in_ok-runs.runs (c.in_ok-runs.ensures.end told meanings are))
    c.in-Err.stop (subst (λ fs. IsEnd (ended meanings fs asked) (Err c.in-Err.stop)) to_run (c.in-Err.ensures.end told meanings are)) (c.run_recipe.ensures.files ∙ to_run)

pub returns-clause-ready : goal.returns-clause-ready
returns-clause-ready g c = λ told meanings are.
    let before = g.S.Store.files c.args.store.now in
    let asked = asked_told c.args.asked in
    let to_history = c.read_sources.ensures.store_files in
    let to_run = c.runs_of.ensures.files ∙ to_history in
    ready meanings before asked _ (c.in_ok-sources.ensures.in_limits told)
    (ap (λ fs. meanings.history (history_bytes fs)) (sym to_history) ∙ rows_are (meanings.history (history_bytes (g.S.Store.files c.read_sources.new.store))) c.in_ok-runs.runs (c.in_ok-runs.ensures.end told meanings are))
    (subst (λ fs. IsEnd (ended meanings fs asked) (Ok c.in-Ok.ran)) to_run (c.in-Ok.ensures.end told meanings are)) c.in_ok-done.ensures.text c.in_ok-done.ensures.tells
