use Rattle.std.proofs.Common.{◌≡◌, List, drop}
use Rattle.rw_base.specs.declared.tree.NodeRow.{NodeRow}
use Rattle.rw_base.specs.Laid.{forest_of}
use Rattle.java_nodes.specs.Directly.{leaves_in, first_of}
use Rattle.java_nodes.proofs.parts.first_leaf.Given as goal

abbrev pub invariant-loop-part : goal.invariant-loop-part
invariant-loop-part l = (rows : List NodeRow) → first_of (leaves_in (forest_of rows l.parts))
    ≡ first_of (leaves_in (forest_of rows (drop l.part-index l.parts)))
