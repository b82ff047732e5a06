use Rattle.std.proofs.Common.{refl, arith}
use Rattle.rewrite_cli.proofs.ReportSteps.{count_more, count_end, one_small}
use Rattle.rewrite_cli.proofs.report.count_of.Goals as goal

pub loop-at-preserved : goal.loop-at-preserved
loop-at-preserved c = record {
  counted =
      count_more c.args.kind c.args.changes.now c.loop-at.at c.index-changes-at.result c.has_kind.result c.loop-at.count _ c.one_if-count.result _
      (omega (arith, c.loop-at-test.true)) c.index-changes-at.is c.has_kind.ensures c.one_if-count.ensures refl c.loop-at.invariant.counted;
  below = omega (arith, c.loop-at.invariant.below, one_small c.has_kind.result c.one_if-count.result c.one_if-count.ensures);
}

pub returns : goal.returns
returns c = count_end c.args.kind c.args.changes.now c.loop-at.at c.loop-at.count _ (omega (arith, c.loop-at-test.false)) c.loop-at.invariant.counted
