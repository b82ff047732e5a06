use Rattle.std.proofs.Common.{◌≡◌, ◌++◌, drop}
use Rattle.scheduler.specs.Steps.{beside, left_at}
use Rattle.scheduler.proofs.next.left.Given as goal

abbrev pub invariant-loop-i : goal.invariant-loop-i
invariant-loop-i l = l.out.items ++ beside left_at (drop l.i l.files) (drop l.i l.fates) ≡ beside left_at l.files l.fates
