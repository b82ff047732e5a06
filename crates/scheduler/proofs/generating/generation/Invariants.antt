use Rattle.std.proofs.Common.{◌≡◌, length}
use Rattle.std.specs.Vec.Iter.{into_iter_items, into_iter_len}
use Rattle.kept_files.specs.Readings.{Reads, AreReadings}
use Rattle.kept_files.specs.States.{AreKept}
use Rattle.scheduler.specs.Runs.{with_files, generation}
use Rattle.scheduler.proofs.generating.generation.Given as goal

abbrev pub invariant-loop-file : goal.invariant-loop-file
invariant-loop-file g l = record {
  made : (read : Reads) → AreReadings read → with_files read (into_iter_items l.file-iterator) (record { state = l.made.files.items; events = l.made.events.items }) ≡ generation read l.leaf l.value.texts l.kept;
  kept : AreKept l.made.files.items;
  len : into_iter_len l.file-iterator ≡ length (into_iter_items l.file-iterator);
}
