use Rattle.std.proofs.Common.{arith}
use Rattle.rewrite_cli.proofs.ReportSteps.{changes_more, changes_end}
use Rattle.rewrite_cli.proofs.report.put_changes.Goals as goal

pub loop-change-preserved : goal.loop-change-preserved
loop-change-preserved c =
    changes_more c.args.changes.now c.loop-change.change-index c.change-item.result c.loop-change.text.items c.put_change.new.text.items _
    (omega (arith, c.loop-change-test.true)) c.change-item.is c.in_ok-put_change.ensures c.loop-change.invariant

pub returns : goal.returns
returns c = changes_end c.args.changes.now c.loop-change.change-index c.loop-change.text.items _ (omega (arith, c.loop-change-test.false)) c.loop-change.invariant
