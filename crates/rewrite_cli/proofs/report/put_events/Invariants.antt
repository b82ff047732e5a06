use Rattle.std.proofs.Common.{◌≡◌, ◌++◌, drop}
use Rattle.rewrite_cli.specs.Report.{event_lines}
use Rattle.rewrite_cli.proofs.report.put_events.Given as goal

abbrev pub invariant-loop-event : goal.invariant-loop-event
invariant-loop-event l = l.text.items ++ event_lines (drop l.event-index l.events) ≡ l.initial.text.items ++ event_lines l.events
