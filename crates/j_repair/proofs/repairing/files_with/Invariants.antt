use Rattle.std.proofs.Common.{◌≡◌, length}
use Rattle.std.specs.Vec.Iter.{into_iter_items, into_iter_len}
use Rattle.kept_files.specs.Readings.{Reads, AreReadings}
use Rattle.kept_files.specs.States.{AreKept}
use Rattle.j_repair.specs.Changes.{repaired}
use Rattle.j_repair.proofs.repairing.files_with.Given as goal

abbrev pub invariant-loop-change : goal.invariant-loop-change
invariant-loop-change g l = record {
  repaired : (read : Reads) → AreReadings read → repaired read (into_iter_items l.change-iterator) l.out.items ≡ repaired read l.fn.changes.items l.files;
  kept : AreKept l.out.items;
  len : into_iter_len l.change-iterator ≡ length (into_iter_items l.change-iterator);
}
