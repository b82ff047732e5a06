use Rattle.std.proofs.Common.{arith}
use Rattle.rewrite_cli.proofs.Batches.{batches_more, batches_end}
use Rattle.rewrite_cli.proofs.changes.batch_of.Goals as goal

pub loop-change-preserved : goal.loop-change-preserved
loop-change-preserved c =
    batches_more c.args.changes.now c.loop-change.change-index c.change-item.result _ _ _
    (omega (arith, c.loop-change-test.true)) c.change-item.is c.in_ok-push_change.ensures c.loop-change.invariant

pub returns : goal.returns
returns c = batches_end c.args.changes.now c.loop-change.change-index _ _ (omega (arith, c.loop-change-test.false)) c.loop-change.invariant
