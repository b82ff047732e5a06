use Rattle.std.proofs.Common.{◌≡◌, true, take}
use Rattle.journal_text.specs.Stops.{no_control}
use Rattle.journal_text.proofs.stops.control_stop.Given as goal

abbrev pub invariant-loop-i : goal.invariant-loop-i
invariant-loop-i l = no_control (take l.i l.line) ≡ true
