-- The members that a body declares (JLS 8.2, 8.3, 8.4, 8.8, 8.9.1, 9.3, 9.4).
use Rattle.std.specs.Prelude.{ℕ, ◌+◌, ◌==◌, Bool, true, false, ◌||◌, ◌&&◌, List, [], ◌∷◌, ◌++◌, Option, None, Some}
use Rattle.std.specs.Prelude.{if◌then◌else◌}
use Rattle.rw_base.specs.Trees.{none, leaf, node}
use Rattle.java_lex.specs.declared.class.TheConstants.{ID, STATIC, PRIVATE, ELLIPSIS}
use Rattle.jtypes.specs.declared.signatures.ClassKind.{ClassKind}
use Rattle.jtypes.specs.declared.signatures.ClassKind.TheVariants as kind
use Rattle.j_names.specs.Calls.{constructor_name}
use Rattle.class_table.specs.declared.kinds.TheConstants.{MODIFIER, GENERIC, AFTER_GENERIC, AFTER_TYPE, METHOD, FIELD}
use Rattle.class_table.specs.declared.kinds.TheConstants.{DECLARATOR, PARAM, DIMENSIONS, BODY, MEMBER, MEMBER_REST}
use Rattle.class_table.specs.declared.kinds.TheConstants.{ENUM_CONSTANT}
use Rattle.class_table.specs.declared.modifiers.Mods.{Mods}
use Rattle.declared_types.specs.declared.written.Base.TheVariants as base
use Rattle.declared_types.specs.declared.written.Written.{Written}
use Rattle.declared_types.specs.declared.written.WrittenField.{WrittenField}
use Rattle.declared_types.specs.declared.written.WrittenMethod.{WrittenMethod}
use Rattle.declared_types.specs.declared.written.WrittenParam.{WrittenParam}
use Rattle.class_table.specs.Words.{Parts}
use Rattle.class_table.specs.Finding.{Node, has, name_in, node_in, count_in, of_nodes}
use Rattle.class_table.specs.TypesWritten.{void, type_of, type_params}

-- ---- modifiers (JLS 8.1.1, 8.3.1, 8.4.3)

-- whether a node is a modifier that is this word, and whether one is
abbrev pub is_modifier : ℕ → ℕ → Parts → Bool
is_modifier c k kids = k == MODIFIER && has c kids

abbrev pub says : ℕ → Parts → Bool
says c none = false
says c (leaf w f) = says c f
says c (node _ k kids f) = is_modifier c k kids || says c f

abbrev pub no_mods : Mods
no_mods = record { is_static = false; is_private = false }

abbrev pub mods_in : Parts → Mods
mods_in ps = record { is_static = says STATIC ps; is_private = says PRIVATE ps }

-- ---- what stands behind modifiers

-- The reader puts what stands behind type parameters, and behind a type, into a node of its own where it is more than
-- one part: the parts of that node, if there is one.
abbrev pub parts_or : Parts → Option Node → Parts
parts_or ps None = ps
parts_or ps (Some n) = n.1

abbrev pub opened : ℕ → Parts → Parts
opened c ps = parts_or ps (node_in c ps)

-- where the type of a member stands, and where its name stands with a method or field behind it
abbrev pub typed : Parts → Parts
typed ps = opened GENERIC ps

abbrev pub headed : Parts → Parts
headed ps = opened AFTER_TYPE (opened AFTER_GENERIC (typed ps))

-- ---- methods and constructors

-- the type of a parameter: the brackets behind its name are dimensions, and so is `...` (JLS 8.4.1, 10.2)
abbrev pub dims_behind : Parts → ℕ
dims_behind ps = count_in DIMENSIONS ps + (if has ELLIPSIS ps then 1 else 0)

abbrev pub param : Parts → Written
param ps = type_of (dims_behind ps) ps

abbrev pub param_node : ℕ → Parts → List Written
param_node k kids = if k == PARAM then param kids ∷ [] else []

abbrev pub params_in : Parts → List Written
params_in ps = of_nodes param_node ps

-- whether the last parameter has `...`; `last` says it of the one before
abbrev pub varargs_in : Bool → Parts → Bool
varargs_in last none = last
varargs_in last (leaf w f) = varargs_in last f
varargs_in last (node _ k kids f) = varargs_in (if k == PARAM then has ELLIPSIS kids else last) f

abbrev pub method_name : Bool → Parts → List ℕ
method_name is_named ps = if is_named then name_in ps else constructor_name

abbrev pub method_result : Bool → Parts → Written
method_result is_named ps = if is_named then type_of 0 ps else void

-- A method, by the parts of its member and those of its Method. Where no name stands before these, it is a constructor,
-- which has no result and isn't static.
abbrev pub is_named : Parts → Bool
is_named ps = has ID (headed ps)

abbrev pub method : Mods → Parts → Parts → WrittenMethod
method m ps kids = record {
  name = method_name (is_named ps) (headed ps);
  type_params = type_params ps;
  params = params_in kids;
  result = method_result (is_named ps) (typed ps);
  varargs = varargs_in false kids;
  is_static = is_named ps && m.is_static;
  is_private = m.is_private;
}

abbrev pub methods_by : Mods → Parts → Option Node → List WrittenMethod
methods_by m ps None = []
methods_by m ps (Some n) = method m ps n.1 ∷ []

abbrev pub methods_of : Mods → Parts → List WrittenMethod
methods_of m ps = methods_by m ps (node_in METHOD (headed ps))

-- ---- fields

abbrev pub field : Mods → List ℕ → Written → WrittenField
field m name ty = record { name = name; ty = ty; is_static = m.is_static; is_private = m.is_private }

-- the brackets behind a name are dimensions of its type (JLS 10.2); `at` are the parts that the type stands among
abbrev pub declarator_node : Mods → Parts → ℕ → Parts → List WrittenField
declarator_node m at k kids =
    if k == DECLARATOR then field m (name_in kids) (type_of (count_in DIMENSIONS kids) at) ∷ [] else []

abbrev pub declarators_in : Mods → Parts → Parts → List WrittenField
declarators_in m at ps = of_nodes (declarator_node m at) ps

abbrev pub fields_by : Mods → Parts → Option Node → List WrittenField
fields_by m ps None = []
fields_by m ps (Some n) =
    field m (name_in (headed ps)) (type_of (count_in DIMENSIONS n.1) (typed ps)) ∷ declarators_in m (typed ps) n.1

abbrev pub fields_of : Mods → Parts → List WrittenField
fields_of m ps = fields_by m ps (node_in FIELD (headed ps))

-- an enum constant is a static field of the type of the enum (JLS 8.9.3)
abbrev pub constant : Parts → WrittenField
constant ps = record {
  name = name_in ps;
  ty = record { base = base.Itself; dims = 0 };
  is_static = true;
  is_private = false;
}

-- ---- bodies

-- the fields of interfaces and annotation types are static (JLS 9.3)
abbrev pub are_static : ClassKind → Bool
are_static kind.Interface = true
are_static kind.Annotation = true
are_static kind.Class = false
are_static kind.Enum = false

abbrev pub static_in : ClassKind → Mods → Mods
static_in t m = record { is_static = m.is_static || are_static t; is_private = m.is_private }

-- the modifiers that count inside a node: its own, where it has some, else those around
abbrev pub mods_inside : Mods → ℕ → Parts → Mods
mods_inside m k kids = if k == MEMBER then mods_in kids else m

-- bodies, and members with modifiers: what they hold counts
abbrev pub holds_members : ℕ → Bool
holds_members k = k == BODY || k == MEMBER

-- The fields that are declared among these parts of a type of this kind, and the methods. Other nodes, such as blocks
-- and the bodies of enum constants, hold no member of it.
abbrev pub node_fields : ClassKind → Mods → ℕ → Parts → List WrittenField → List WrittenField
node_fields t m k kids inner =
    if k == MEMBER_REST then fields_of (static_in t m) kids
    else if k == ENUM_CONSTANT then constant kids ∷ []
    else if holds_members k then inner
    else []

unfoldable pub fields_in : ClassKind → Mods → Parts → List WrittenField
fields_in t m none = []
fields_in t m (leaf w f) = fields_in t m f
fields_in t m (node _ k kids f) = node_fields t m k kids (fields_in t (mods_inside m k kids) kids) ++ fields_in t m f

abbrev pub node_methods : Mods → ℕ → Parts → List WrittenMethod → List WrittenMethod
node_methods m k kids inner =
    if k == MEMBER_REST then methods_of m kids else if holds_members k then inner else []

unfoldable pub methods_in : Mods → Parts → List WrittenMethod
methods_in m none = []
methods_in m (leaf w f) = methods_in m f
methods_in m (node _ k kids f) = node_methods m k kids (methods_in (mods_inside m k kids) kids) ++ methods_in m f
