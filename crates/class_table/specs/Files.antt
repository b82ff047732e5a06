-- The package and the imports of a file (JLS 7.4, 7.5).
use Rattle.std.specs.Prelude.{ℕ, ◌==◌, Bool, true, false, List, [], ◌∷◌, ◌++◌, Option, None, Some, if◌then◌else◌}
use Rattle.rw_base.specs.Trees.{none, leaf, node}
use Rattle.java_lex.specs.declared.class.TheConstants.{STATIC, STAR}
use Rattle.j_names.specs.declared.context.ImportRow.{ImportRow}
use Rattle.j_names.specs.declared.context.UnitContext.{UnitContext}
use Rattle.class_table.specs.declared.kinds.TheConstants.{PACKAGE, QUALIFIED_NAME, IMPORT}
use Rattle.class_table.specs.declared.file.ImportName.{ImportName}
use Rattle.class_table.specs.Words.{Parts}
use Rattle.class_table.specs.Finding.{Node, has, name_in, node_in, of_nodes}

-- the texts of the words, one behind another: those of a qualified name with its dots
abbrev pub text_in : Parts → List ℕ
text_in none = []
text_in (leaf w f) = w.text ++ text_in f
text_in (node _ k kids f) = text_in f

abbrev pub parts_or_none : Option Node → Parts
parts_or_none None = none
parts_or_none (Some n) = n.1

-- the name of the package, the empty name for the unnamed one
unfoldable pub package_name : Parts → List ℕ
package_name ps = text_in (parts_or_none (node_in QUALIFIED_NAME (parts_or_none (node_in PACKAGE ps))))

-- The name that is imported, by its first identifiers and the nodes behind them, each of which has a dot and a further
-- identifier or a `*`. Where anything stands behind a `*`, nothing is imported.
abbrev pub imported : Bool → List ℕ → Parts → Option ImportName
imported on_demand name none = Some (record { name = name; on_demand = on_demand })
imported on_demand name (leaf w f) = imported on_demand name f
imported on_demand name (node _ k kids f) =
    if on_demand then None
    else if has STAR kids then imported true name f
    else imported false (name ++ text_in kids) f

abbrev pub rows_of : Bool → Option ImportName → List ImportRow
rows_of is_static None = []
rows_of is_static (Some i) = record { name = i.name; is_static = is_static; on_demand = i.on_demand } ∷ []

unfoldable pub import_of : Parts → List ImportRow
import_of ps = rows_of (has STATIC ps) (imported false (name_in ps) ps)

abbrev pub import_node : ℕ → Parts → List ImportRow
import_node k kids = if k == IMPORT then import_of kids else []

abbrev pub imports_in : Parts → List ImportRow
imports_in ps = of_nodes import_node ps

-- the context of a file by the parts of its root
unfoldable pub file_context : Parts → UnitContext
file_context ps = record { «package» = package_name ps; imports = imports_in ps; enclosing = [] }
