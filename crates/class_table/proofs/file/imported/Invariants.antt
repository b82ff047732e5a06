use Rattle.std.proofs.Common.{◌≡◌, false, length, drop}
use Rattle.rw_base.specs.Arena.{AreBelow}
use Rattle.class_table.specs.Words.{parts_at, trees_of}
use Rattle.class_table.specs.Files.{imported}
use Rattle.class_table.proofs.file.imported.Given as goal

abbrev pub invariant-loop-part : goal.invariant-loop-part
invariant-loop-part l = record {
  same : imported l.on_demand l.name.items (trees_of l.tree l.bytes (drop l.part-index l.parts))
      ≡ imported false l.fn.first.items (parts_at l.tree l.bytes l.fn.n.0);
  below : AreBelow (length l.tree.leaves) l.fn.n.0 (drop l.part-index l.parts);
}
