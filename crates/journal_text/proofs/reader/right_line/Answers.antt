use Rattle.std.proofs.Common.{take, arith}
use Rattle.std.proofs.lemmas.Result.{err_from_is_err_and}
use Rattle.journal_text.specs.Parts.{LineStops}
use Rattle.journal_text.proofs.Places.{on_at, on_at_weaker}
use Rattle.journal_text.proofs.LastLines.{stuck_at_word, stuck_at_digits, stuck_at_end, line_right, line_over}
use Rattle.journal_text.proofs.reader.right_line.Goals as goal

pub returns-in_err-digits_at-clause-wrong : goal.returns-in_err-digits_at-clause-wrong
returns-in_err-digits_at-clause-wrong c =
    let p = err_from_is_err_and c.from_residual.result c.from_residual.ensures.1 in
    rw (p.1, p.2) (on_at_weaker _ _ _ (λ n s. stuck_at_word (take c.args.at c.args.bytes.now) _ c.args.bytes.now c.args.at c.digest_digits-digits.ensures n s) c.in_err-digits_at.ensures.stuck)

pub returns-in_err-end_at-clause-wrong : goal.returns-in_err-end_at-clause-wrong
returns-in_err-end_at-clause-wrong c =
    let p = err_from_is_err_and c.from_residual-in_err-end_at.result c.from_residual-in_err-end_at.ensures.1 in
    rw (p.1, p.2) (on_at_weaker _ _ _ (λ n s. stuck_at_digits (take c.args.at c.args.bytes.now) _ c.args.bytes.now c.args.at c.digest_digits-digits.ensures _ n c.in_ok-digits_at.ensures.took s) c.in_err-end_at.ensures.stuck)

pub returns-in_err-behind-clause-wrong : goal.returns-in_err-behind-clause-wrong
returns-in_err-behind-clause-wrong c =
    let p = err_from_is_err_and c.from_residual-in_err-behind.result c.from_residual-in_err-behind.ensures.1 in
    rw (p.1, p.2) (on_at_weaker _ _ _ (λ n s. stuck_at_end (take c.args.at c.args.bytes.now) _ c.args.bytes.now c.args.at c.digest_digits-digits.ensures _ _ n c.in_ok-digits_at.ensures.took c.in_ok-end_at.ensures.took s) c.in_err-behind.ensures.stuck)

pub returns-then-behind-bytes-clause-wrong : goal.returns-then-behind-bytes-clause-wrong
returns-then-behind-bytes-clause-wrong c = on_at _ _ (LineStops (take c.args.at c.args.bytes.now) c.args.bytes.now c.args.at) c.stop_at.ensures
    (line_over (take c.args.at c.args.bytes.now) _ c.args.bytes.now c.args.at c.digest_digits-digits.ensures _ _ _ c.in_ok-digits_at.ensures.took c.in_ok-end_at.ensures.took c.in_ok-behind.ensures.took (omega arith))

pub returns-clause-right : goal.returns-clause-right
returns-clause-right c = line_right (take c.args.at c.args.bytes.now) _ c.args.bytes.now c.args.at c.digest_digits-digits.ensures _ _ _ c.in_ok-digits_at.ensures.took c.in_ok-end_at.ensures.took c.in_ok-behind.ensures.took (omega arith)
