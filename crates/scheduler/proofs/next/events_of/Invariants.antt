use Rattle.std.proofs.Common.{◌≡◌, ◌++◌, drop}
use Rattle.scheduler.specs.Steps.{beside, events_at}
use Rattle.scheduler.proofs.next.events_of.Given as goal

abbrev pub invariant-loop-i : goal.invariant-loop-i
invariant-loop-i l = l.out.items ++ beside (events_at l.recipe) (drop l.i l.files) (drop l.i l.fates) ≡ beside (events_at l.recipe) l.files l.fates
