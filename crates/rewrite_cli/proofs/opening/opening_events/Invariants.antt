use Rattle.std.proofs.Common.{◌≡◌, ◌≤◌, ◌++◌, drop, length}
use Rattle.std.specs.Vec.Iter.{into_iter_items, into_iter_len}
use Rattle.kept_files.specs.Readings.{AreReadings, Reads}
use Rattle.rewrite_cli.proofs.Weaving.{woven}
use Rattle.rewrite_cli.proofs.opening.opening_events.Given as goal

abbrev pub invariant-loop-stub : goal.invariant-loop-stub
invariant-loop-stub g l = record {
  told : (read : Reads) → AreReadings read → l.events.items ++ woven read (drop l.from l.files) (into_iter_items l.stub-iterator) ≡ woven read l.files l.fn.stubs.items;
  in_range : l.from ≤ length l.files;
  len : into_iter_len l.stub-iterator ≡ length (into_iter_items l.stub-iterator);
}
