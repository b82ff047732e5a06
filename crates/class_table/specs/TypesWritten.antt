-- Types as they are written (JLS 4.1 to 4.3, 10.1), and type parameters (8.1.2, 8.4.4).
use Rattle.std.specs.Prelude.{ℕ, ◌+◌, ◌==◌, List, [], ◌∷◌, ◌++◌, Option, None, Some, if◌then◌else◌, codes}
use Rattle.std.specs.Str.{bytes_eq}
use Rattle.rw_base.specs.Trees.{none, leaf, node}
use Rattle.java_lex.specs.declared.class.TheConstants.{ID, PRIM}
use Rattle.jtypes.specs.declared.types.JPrim.{JPrim}
use Rattle.jtypes.specs.declared.types.JPrim.TheVariants as prim
use Rattle.class_table.specs.declared.kinds.TheConstants.{TYPE, CLASS_TYPE, TYPES, TYPE_PARAMS, TYPE_PARAM, DIMENSIONS}
use Rattle.declared_types.specs.declared.written.NamePart.{NamePart}
use Rattle.declared_types.specs.declared.written.Base.{Base}
use Rattle.declared_types.specs.declared.written.Base.TheVariants as base
use Rattle.declared_types.specs.declared.written.Written.{Written}
use Rattle.declared_types.specs.declared.written.WrittenParam.{WrittenParam}
use Rattle.class_table.specs.Words.{Parts}
use Rattle.class_table.specs.Finding.{Node, name_in, node_in, type_in, is_type, count_in, of_nodes}

-- ---- bases

-- the primitive type of a word (JLS 4.2)
unfoldable pub prim_named : List ℕ → JPrim
prim_named text =
    if bytes_eq text (codes "boolean") then prim.Boolean
    else if bytes_eq text (codes "byte") then prim.Byte
    else if bytes_eq text (codes "short") then prim.Short
    else if bytes_eq text (codes "char") then prim.Char
    else if bytes_eq text (codes "int") then prim.Int
    else if bytes_eq text (codes "long") then prim.Long
    else if bytes_eq text (codes "float") then prim.Float
    else prim.Double

abbrev pub part_of_name : List ℕ → NamePart
part_of_name text = record { name = text }

-- the identifiers, as parts of a name
abbrev pub names_in : Parts → List NamePart
names_in none = []
names_in (leaf w f) = if w.class == ID then part_of_name w.text ∷ names_in f else names_in f
names_in (node _ k kids f) = names_in f

-- a name by the parts of a class type: its first word, which the reader may have marked, and the identifiers behind it
abbrev pub named : Parts → Base
named none = base.Void
named (leaf w f) = base.Named (part_of_name w.text) (names_in f)
named (node _ k kids f) = base.Void

-- the base by the parts of a type: the word of a primitive type, or a class type, which stands alone without dimensions
abbrev pub base_of : Parts → Base
base_of none = base.Void
base_of (leaf w f) = if w.class == PRIM then base.Prim (prim_named w.text) else named (leaf w f)
base_of (node _ k kids f) = named kids

-- ---- types

abbrev pub void : Written
void = record { base = base.Void; dims = 0 }

-- a type, with so many more dimensions
abbrev pub written : ℕ → Node → Written
written more n = record { base = base_of n.1; dims = count_in DIMENSIONS n.1 + more }

-- the first type, with so many more dimensions
abbrev pub written_or_void : ℕ → Option Node → Written
written_or_void more None = void
written_or_void more (Some n) = written more n

abbrev pub type_of : ℕ → Parts → Written
type_of more ps = written_or_void more (type_in ps)

-- all types
abbrev pub type_node : ℕ → Parts → List Written
type_node k kids = if is_type k then written 0 (k, kids) ∷ [] else []

abbrev pub written_types : Parts → List Written
written_types ps = of_nodes type_node ps

-- the types of a list, which stands alone where it has one
abbrev pub listed : Option Node → List Written
listed None = []
listed (Some n) = if n.0 == TYPES then written_types n.1 else written 0 n ∷ []

-- ---- type parameters

-- a type parameter with its first bound
abbrev pub type_at : Option Node → Option Written
type_at None = None
type_at (Some n) = Some (written 0 n)

abbrev pub type_param : Parts → WrittenParam
type_param ps = record { name = name_in ps; bound = type_at (type_in ps) }

abbrev pub type_param_node : ℕ → Parts → List WrittenParam
type_param_node k kids = if k == TYPE_PARAM then type_param kids ∷ [] else []

abbrev pub each_type_param : Parts → List WrittenParam
each_type_param ps = of_nodes type_param_node ps

abbrev pub type_params_of : Option Node → List WrittenParam
type_params_of None = []
type_params_of (Some n) = each_type_param n.1

-- the type parameters of a declaration
abbrev pub type_params : Parts → List WrittenParam
type_params ps = type_params_of (node_in TYPE_PARAMS ps)
