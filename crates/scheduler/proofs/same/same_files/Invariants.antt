use Rattle.std.proofs.Common.{◌≡◌, drop}
use Rattle.scheduler.specs.Runs.{same_files}
use Rattle.scheduler.proofs.same.same_files.Given as goal

abbrev pub invariant-loop-at : goal.invariant-loop-at
invariant-loop-at l = same_files (drop l.at l.one) (drop l.at l.other) ≡ same_files l.one l.other
