use Rattle.journal_text.specs.Stops.{PartsAt}
use Rattle.journal_text.proofs.stops.parts_stop.Given as goal

abbrev pub invariant-loop-i : goal.invariant-loop-i
invariant-loop-i l = PartsAt l.line l.start l.i
