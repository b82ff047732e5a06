use Rattle.std.proofs.Common.{◌≡◌, ◌++◌, length, drop}
use Rattle.rw_base.specs.Arena.{AreBelow}
use Rattle.class_table.specs.Words.{parts_at, trees_of}
use Rattle.class_table.specs.TypesWritten.{each_type_param}
use Rattle.class_table.proofs.types.each_type_param.Given as goal

abbrev pub invariant-loop-part : goal.invariant-loop-part
invariant-loop-part l = record {
  same : l.out.items ++ each_type_param (trees_of l.tree l.bytes (drop l.part-index l.parts))
      ≡ each_type_param (parts_at l.tree l.bytes l.fn.n.0);
  below : AreBelow (length l.tree.leaves) l.fn.n.0 (drop l.part-index l.parts);
}
