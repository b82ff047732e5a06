use Rattle.std.proofs.lemmas.Result.{err_from_is_err_and}
use Rattle.journal_text.proofs.Places.{on_at_weaker}
use Rattle.journal_text.proofs.EntrySteps.{del_stuck_word, del_stuck_path, del_took}
use Rattle.journal_text.proofs.entries.del_entry.Goals as goal

pub returns-in_err-path_at-clause-stuck : goal.returns-in_err-path_at-clause-stuck
returns-in_err-path_at-clause-stuck c =
    let p = err_from_is_err_and c.from_residual.result c.from_residual.ensures.1 in
    rw (p.1, p.2) (on_at_weaker _ _ _ (λ n s. del_stuck_word c.args.before.now c.args.bytes.now c.args.at c.requires.before n s) c.in_err-path_at.ensures.stuck)

pub returns-in_err-path-clause-stuck : goal.returns-in_err-path-clause-stuck
returns-in_err-path-clause-stuck c =
    let p = err_from_is_err_and c.from_residual-in_err-path.result c.from_residual-in_err-path.ensures.1 in
    rw (p.1, p.2) (on_at_weaker _ _ _ (λ n s. del_stuck_path c.args.before.now c.args.bytes.now c.args.at c.requires.before _ n c.in_ok-path_at.ensures.took s) c.in_err-path.ensures.stuck)

pub returns-clause-took : goal.returns-clause-took
returns-clause-took c = del_took c.args.before.now c.args.bytes.now c.args.at c.requires.before _ _ _ c.in_ok-path_at.ensures.took c.in_ok-path.ensures.took
