use Rattle.std.proofs.Common.{◌≡◌, ℕ, ◌+◌, ◌≤◌, List, length, drop}
use Rattle.rw_base.specs.Arena.{AreBelow}
use Rattle.class_table.specs.Words.{parts_at, trees_of}
use Rattle.class_table.specs.Finding.{count_in}
use Rattle.class_table.proofs.parts.count_in.Given as goal

abbrev pub invariant-loop-part : goal.invariant-loop-part
invariant-loop-part l = record {
  same : (bytes : List ℕ) → l.count + count_in l.kind (trees_of l.tree bytes (drop l.part-index l.parts))
      ≡ count_in l.kind (parts_at l.tree bytes l.fn.n.0);
  few : l.count ≤ l.part-index;
  below : AreBelow (length l.tree.leaves) l.fn.n.0 (drop l.part-index l.parts);
}
