use Rattle.std.proofs.Common.{◌≡◌, ◌≤◌, length, take}
use Rattle.journal_text.proofs.stops.order_stop.Given as goal

abbrev pub invariant-loop-i : goal.invariant-loop-i
invariant-loop-i l = record { place : l.i ≤ length l.before; same : take l.i l.before ≡ take l.i l.line }
