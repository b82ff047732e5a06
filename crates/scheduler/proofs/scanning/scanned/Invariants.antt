use Rattle.std.proofs.Common.{◌≡◌, drop}
use Rattle.scheduler.specs.Runs.{scanned, scanned_from}
use Rattle.scheduler.proofs.scanning.scanned.Given as goal

abbrev pub invariant-loop-file : goal.invariant-loop-file
invariant-loop-file l = scanned_from l.leaf l.kept l.file (drop l.file l.kept) l.value.texts ≡ scanned l.leaf l.kept
