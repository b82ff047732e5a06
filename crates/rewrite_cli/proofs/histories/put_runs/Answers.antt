use Rattle.std.proofs.Common.{arith}
use Rattle.rewrite_cli.proofs.HistorySteps.{runs_more, runs_end}
use Rattle.rewrite_cli.proofs.histories.put_runs.Goals as goal

pub loop-run-preserved : goal.loop-run-preserved
loop-run-preserved c =
    runs_more c.args.runs.now c.loop-run.run-index c.run-item.result c.loop-run.text.items c.put_run.new.text.items _
    (omega (arith, c.loop-run-test.true)) c.run-item.is c.in_ok-put_run.ensures c.loop-run.invariant

pub returns : goal.returns
returns c = runs_end c.args.runs.now c.loop-run.run-index c.loop-run.text.items _ (omega (arith, c.loop-run-test.false)) c.loop-run.invariant
