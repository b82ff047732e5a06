use Rattle.std.proofs.Common.{◌≡◌, ℕ, ◌+◌, ◌≤◌, List, false, length, drop}
use Rattle.rw_base.specs.Arena.{AreBelow}
use Rattle.class_table.specs.Words.{parts_at, trees_of}
use Rattle.class_table.specs.Members.{varargs_in}
use Rattle.class_table.proofs.methods.varargs_in.Given as goal

abbrev pub invariant-loop-part : goal.invariant-loop-part
invariant-loop-part l = record {
  same : (bytes : List ℕ) → varargs_in l.last (trees_of l.tree bytes (drop l.part-index l.parts))
      ≡ varargs_in false (parts_at l.tree bytes l.fn.n.0);
  below : AreBelow (length l.tree.leaves) l.fn.n.0 (drop l.part-index l.parts);
}
