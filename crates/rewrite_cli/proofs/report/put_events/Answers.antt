use Rattle.std.proofs.Common.{arith}
use Rattle.rewrite_cli.proofs.ReportSteps.{events_more, events_end}
use Rattle.rewrite_cli.proofs.report.put_events.Goals as goal

pub loop-event-preserved : goal.loop-event-preserved
loop-event-preserved c =
    events_more c.args.events.now c.loop-event.event-index c.event-item.result c.loop-event.text.items c.put_event.new.text.items _
    (omega (arith, c.loop-event-test.true)) c.event-item.is c.in_ok-put_event.ensures c.loop-event.invariant

pub returns : goal.returns
returns c = events_end c.args.events.now c.loop-event.event-index c.loop-event.text.items _ (omega (arith, c.loop-event-test.false)) c.loop-event.invariant
