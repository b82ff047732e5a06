use Rattle.std.proofs.Common.{◌≡◌, ◌+◌, ◌*◌, ◌++◌, length, drop}
use Rattle.rw_base.specs.Arena.{AreBelow}
use Rattle.class_table.specs.Words.{parts_at, trees_of}
use Rattle.class_table.specs.Members.{fields_in, methods_in}
use Rattle.class_table.proofs.members.+members.Given as goal

abbrev pub decreases-add_node : goal.decreases-add_node
decreases-add_node l = 2 * l.m.0 + 1

abbrev pub decreases-add_members : goal.decreases-add_members
decreases-add_members l = 2 * l.n.0

abbrev pub invariant-add_members-loop-part : goal.invariant-add_members-loop-part
invariant-add_members-loop-part l = record {
  fields : l.out.fields.items ++ fields_in l.kind l.mods (trees_of l.tree l.bytes (drop l.part-index l.parts))
      ≡ l.fn.out.fields.items ++ fields_in l.kind l.mods (parts_at l.tree l.bytes l.n.0);
  methods : l.out.methods.items ++ methods_in l.mods (trees_of l.tree l.bytes (drop l.part-index l.parts))
      ≡ l.fn.out.methods.items ++ methods_in l.mods (parts_at l.tree l.bytes l.n.0);
  below : AreBelow (length l.tree.leaves) l.n.0 (drop l.part-index l.parts);
}
