use Rattle.std.proofs.Common.{◌≡◌, ◌++◌, drop}
use Rattle.scheduler.specs.Steps.{beside, moved_from}
use Rattle.scheduler.proofs.next.moved.Given as goal

abbrev pub invariant-loop-i : goal.invariant-loop-i
invariant-loop-i l = l.out.items ++ beside moved_from (drop l.i l.files) (drop l.i l.fates) ≡ beside moved_from l.files l.fates
