use Rattle.std.proofs.lemmas.Result.{err_from_is_err_and}
use Rattle.journal_text.proofs.Places.{on_at_weaker}
use Rattle.journal_text.proofs.EntrySteps.{put_stuck_word, put_stuck_size, put_stuck_path, put_stuck_contents, put_stuck_end, put_took}
use Rattle.journal_text.proofs.entries.put_entry.Goals as goal

pub returns-in_err-size_at-clause-stuck : goal.returns-in_err-size_at-clause-stuck
returns-in_err-size_at-clause-stuck c =
    let p = err_from_is_err_and c.from_residual.result c.from_residual.ensures.1 in
    rw (p.1, p.2) (on_at_weaker _ _ _ (λ n s. put_stuck_word c.args.before.now c.args.bytes.now c.args.at c.requires.before n s) c.in_err-size_at.ensures.stuck)

pub returns-in_err-size-clause-stuck : goal.returns-in_err-size-clause-stuck
returns-in_err-size-clause-stuck c =
    let p = err_from_is_err_and c.from_residual-in_err-size.result c.from_residual-in_err-size.ensures.1 in
    rw (p.1, p.2) (on_at_weaker _ _ _ (λ n s. put_stuck_size c.args.before.now c.args.bytes.now c.args.at c.requires.before _ n c.in_ok-size_at.ensures.took s) c.in_err-size.ensures.stuck)

pub returns-in_err-path-clause-stuck : goal.returns-in_err-path-clause-stuck
returns-in_err-path-clause-stuck c =
    let p = err_from_is_err_and c.from_residual-in_err-path.result c.from_residual-in_err-path.ensures.1 in
    let size = c.in_ok-size.ensures.took in
    rw (p.1, p.2) (on_at_weaker _ _ _ (λ n s. put_stuck_path c.args.before.now c.args.bytes.now c.args.at c.requires.before _ _ size.n n c.in_ok-size_at.ensures.took size.took s) c.in_err-path.ensures.stuck)

pub returns-in_err-contents-clause-stuck : goal.returns-in_err-contents-clause-stuck
returns-in_err-contents-clause-stuck c =
    let p = err_from_is_err_and c.from_residual-in_err-contents.result c.from_residual-in_err-contents.ensures.1 in
    let size = c.in_ok-size.ensures.took in
    rw (p.1, p.2) (on_at_weaker _ _ _ (λ n s. put_stuck_contents c.args.before.now c.args.bytes.now c.args.at c.requires.before _ _ _ size.n _ n c.in_ok-size_at.ensures.took size.took c.in_ok-path.ensures.took (s size.n size.value)) c.in_err-contents.ensures.stuck)

pub returns-in_err-behind-clause-stuck : goal.returns-in_err-behind-clause-stuck
returns-in_err-behind-clause-stuck c =
    let p = err_from_is_err_and c.from_residual-in_err-behind.result c.from_residual-in_err-behind.ensures.1 in
    let size = c.in_ok-size.ensures.took in
    rw (p.1, p.2) (on_at_weaker _ _ _ (λ n s. put_stuck_end c.args.before.now c.args.bytes.now c.args.at c.requires.before _ _ _ _ size.n _ _ n c.in_ok-size_at.ensures.took size.took c.in_ok-path.ensures.took (c.in_ok-contents.ensures.took size.n size.value) s) c.in_err-behind.ensures.stuck)

pub returns-clause-took : goal.returns-clause-took
returns-clause-took c =
    let size = c.in_ok-size.ensures.took in
    put_took c.args.before.now c.args.bytes.now c.args.at c.requires.before _ _ _ _ size.n _ _ _ c.in_ok-size_at.ensures.took size.took c.in_ok-path.ensures.took (c.in_ok-contents.ensures.took size.n size.value) c.in_ok-behind.ensures.took
