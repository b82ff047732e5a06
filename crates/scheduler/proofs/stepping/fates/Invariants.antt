use Rattle.std.proofs.Common.{◌≡◌, ◌++◌, drop, length}
use Rattle.kept_files.specs.Readings.{Reads, AreReadings}
use Rattle.scheduler.specs.Fates.{fates_from}
use Rattle.scheduler.specs.Steps.{AreFatesKept}
use Rattle.scheduler.proofs.stepping.fates.Given as goal

abbrev pub invariant-loop-file : goal.invariant-loop-file
invariant-loop-file g l = record {
  fates : (read : Reads) → AreReadings read → l.all.items ++ fates_from read l.plan l.leaf l.value.texts l.kept l.file (drop l.file l.kept) ≡ fates_from read l.plan l.leaf l.value.texts l.kept 0 l.kept;
  count : length l.all.items ≡ l.file;
  kept : AreFatesKept l.all.items;
}
