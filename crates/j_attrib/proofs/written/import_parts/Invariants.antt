use Rattle.std.proofs.Common.{◌≡◌, ◌++◌, drop, length}
use Rattle.rw_base.specs.Arena.{AreBelow}
use Rattle.rw_base.specs.Laid.{forest_of}
use Rattle.j_attrib.specs.WrittenRows.{import_parts}
use Rattle.j_attrib.proofs.written.import_parts.Given as goal

abbrev pub invariant-loop-part : goal.invariant-loop-part
invariant-loop-part l = record {
  below : AreBelow (length l.u.tree.leaves) (length l.u.tree.nodes) (drop l.part-index l.parts);
  same : l.list ++ import_parts l.u (forest_of l.u.tree.nodes (drop l.part-index l.parts))
      ≡ import_parts l.u (forest_of l.u.tree.nodes l.parts);
}
