use Rattle.rewrite_cli.proofs.HistorySteps.{is_rows, rows_end, stop_end}
use Rattle.rewrite_cli.proofs.histories.runs_in.Goals as goal

pub returns-in-Ok-clause-end : goal.returns-in-Ok-clause-end
returns-in-Ok-clause-end c = λ meanings are.
    let bytes = c.args.bytes.now in
    rows_end (meanings.history bytes) c.in-Ok.runs
    (is_rows bytes (meanings.history bytes) c.in-Ok.runs.items (are.history bytes) (λ rs i. c.in-Ok.ensures.reading rs i) (λ n s. c.in-Ok.ensures.no_reading n s))

pub returns-in-Err-clause-end : goal.returns-in-Err-clause-end
returns-in-Err-clause-end c = λ meanings are.
    let bytes = c.args.bytes.now in
    stop_end bytes (meanings.history bytes) c.in-Err.fault c.stop_of.result (are.history bytes) (λ rs i. c.in-Err.ensures.reading rs i) (λ n s. c.in-Err.ensures.no_reading n s) c.stop_of.ensures
