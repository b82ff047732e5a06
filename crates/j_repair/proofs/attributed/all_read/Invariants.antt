use Rattle.std.proofs.Common.{◌≡◌, length, ◌++◌, map}
use Rattle.std.specs.Vec.Iter.{into_iter_items, into_iter_len}
use Rattle.kept_files.specs.Readings.{Reads, AreReadings}
use Rattle.j_repair.specs.Changes.{file_of, paths_of}
use Rattle.j_repair.proofs.Kept.{AreAllKept, kept_paths}
use Rattle.j_repair.proofs.attributed.all_read.Given as goal

abbrev pub invariant-loop-file : goal.invariant-loop-file
invariant-loop-file g l = record {
  files : (read : Reads) → AreReadings read → l.out.items ++ map (file_of read) (into_iter_items l.file-iterator) ≡ map (file_of read) l.fn.files.items;
  paths : kept_paths l.out.items ++ paths_of (into_iter_items l.file-iterator) ≡ paths_of l.fn.files.items;
  kept : AreAllKept l.out.items;
  len : into_iter_len l.file-iterator ≡ length (into_iter_items l.file-iterator);
}
