-- What the small functions give that find entries.
use Rattle.std.specs.Prelude.{List, [], Option, Some, None}
use Rattle.rw_base.specs.declared.tree.NodeId.{NodeId}
use Rattle.rw_base.specs.declared.tree.NodeRow.{NodeRow}
use Rattle.rw_base.specs.Arena.{kind_of}
use Rattle.rw_base.specs.Laid.{kids_of}
use Rattle.yaml_tree.specs.Found.{Search}

-- what f finds from a node, if there is one
abbrev pub at_node : List NodeRow → Search → Option NodeId → List NodeId
at_node rows f None = []
at_node rows f (Some m) = f (kind_of rows m.0) (kids_of rows m.0)
