-- The rows of nodes in either form.
use Rattle.std.specs.Prelude.{List}
use Rattle.rw_base.specs.declared.tree.NodeRow.{NodeRow}
use Rattle.rw_base.specs.declared.kept_nodes.Form.{Form}
use Rattle.rw_base.specs.declared.kept_nodes.Form.TheVariants as form

abbrev pub rows_in : Form → List NodeRow
rows_in (form.Rows rows) = rows.items
rows_in (form.Shared nodes) = nodes
