use Rattle.std.proofs.Common.{◌≡◌, ℕ, List, length, drop}
use Rattle.rw_base.specs.Arena.{AreBelow}
use Rattle.class_table.specs.Words.{parts_at, trees_of}
use Rattle.class_table.specs.Members.{says}
use Rattle.class_table.proofs.modifiers.says.Given as goal

abbrev pub invariant-loop-part : goal.invariant-loop-part
invariant-loop-part l = record {
  same : (bytes : List ℕ) → says l.class (parts_at l.tree bytes l.fn.n.0)
      ≡ says l.class (trees_of l.tree bytes (drop l.part-index l.parts));
  below : AreBelow (length l.tree.leaves) l.fn.n.0 (drop l.part-index l.parts);
}
