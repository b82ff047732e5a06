use Rattle.std.proofs.Common.{◌≡◌, ◌++◌, length, drop}
use Rattle.rw_base.specs.Arena.{AreBelow}
use Rattle.class_table.specs.Words.{parts_at, trees_of}
use Rattle.class_table.specs.TypesWritten.{names_in}
use Rattle.class_table.proofs.types.later_names.Given as goal

abbrev pub invariant-loop-at : goal.invariant-loop-at
invariant-loop-at l = record {
  same : l.out.items ++ names_in (trees_of l.tree l.bytes (drop l.at l.parts))
      ≡ names_in (trees_of l.tree l.bytes (drop 1 l.parts));
  below : AreBelow (length l.tree.leaves) l.fn.n.0 (drop l.at l.parts);
}
