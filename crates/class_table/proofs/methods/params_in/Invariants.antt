use Rattle.std.proofs.Common.{◌≡◌, ◌++◌, length, drop}
use Rattle.rw_base.specs.Arena.{AreBelow}
use Rattle.class_table.specs.Words.{parts_at, trees_of}
use Rattle.class_table.specs.Members.{params_in}
use Rattle.class_table.proofs.methods.params_in.Given as goal

abbrev pub invariant-loop-part : goal.invariant-loop-part
invariant-loop-part l = record {
  same : l.out.items ++ params_in (trees_of l.tree l.bytes (drop l.part-index l.parts))
      ≡ params_in (parts_at l.tree l.bytes l.fn.n.0);
  below : AreBelow (length l.tree.leaves) l.fn.n.0 (drop l.part-index l.parts);
}
