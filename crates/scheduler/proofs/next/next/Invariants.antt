use Rattle.std.proofs.Common.{◌≡◌, length}
use Rattle.std.specs.Vec.Iter.{into_iter_items, into_iter_len}
use Rattle.kept_files.specs.States.{AreKept}
use Rattle.scheduler.specs.Steps.{next, put_files, AreAllKept}
use Rattle.scheduler.proofs.next.next.Given as goal

abbrev pub invariant-loop-file : goal.invariant-loop-file
invariant-loop-file l = record {
  put : put_files (into_iter_items l.file-iterator) l.out.items ≡ next l.files l.fates;
  kept : AreKept l.out.items;
  left : AreAllKept (into_iter_items l.file-iterator);
  len : into_iter_len l.file-iterator ≡ length (into_iter_items l.file-iterator);
}
