-- The declared types of a file (JLS 7.6, 8.1, 8.5, 8.9, 9.1, 9.5, 9.6): those of the file and the members of these.
-- Local and anonymous classes are no declared types.
use Rattle.std.specs.Prelude.{ℕ, ◌==◌, Bool, true, false, ◌||◌, ◌&&◌, List, [], ◌∷◌, ◌++◌, map, Option, None, Some}
use Rattle.std.specs.Prelude.{if◌then◌else◌}
use Rattle.rw_base.specs.Trees.{none, leaf, node}
use Rattle.java_lex.specs.declared.class.TheConstants.{EXTENDS, IMPLEMENTS, PRIVATE}
use Rattle.jtypes.specs.declared.signatures.ClassKind.{ClassKind}
use Rattle.jtypes.specs.declared.signatures.ClassKind.TheVariants as kind
use Rattle.j_names.specs.declared.context.EnclosingClass.{EnclosingClass}
use Rattle.j_names.specs.Members.{joined}
use Rattle.class_table.specs.declared.kinds.TheConstants.{CLASS, INTERFACE, ENUM, ANNOTATION_TYPE}
use Rattle.class_table.specs.declared.kinds.TheConstants.{TYPE_DECL, MEMBER, BODY}
use Rattle.class_table.specs.declared.around.Around.{Around}
use Rattle.declared_types.specs.declared.written.Written.{Written}
use Rattle.declared_types.specs.declared.written.WrittenParam.{WrittenParam}
use Rattle.declared_types.specs.declared.written.ScopeParams.{ScopeParams}
use Rattle.declared_types.specs.declared.written.DeclaredType.{DeclaredType}
use Rattle.class_table.specs.Words.{Parts}
use Rattle.class_table.specs.Finding.{name_in, node_behind}
use Rattle.class_table.specs.TypesWritten.{type_at, listed, type_params}
use Rattle.class_table.specs.Members.{says, no_mods, fields_in, methods_in}
use Rattle.class_table.specs.Files.{package_name, file_context}

-- ---- names (JLS 6.7)

-- the name of a type by its own and that of the package or type around it
unfoldable pub qualified : Around → Parts → List ℕ
qualified a ps = joined a.within (name_in ps)

abbrev pub or_itself : List ℕ → Option (List ℕ) → List ℕ
or_itself name None = name
or_itself name (Some top) = top

-- ---- where the members of a type stand

abbrev pub enclosing_class : List ℕ → List WrittenParam → EnclosingClass
enclosing_class name params = record { name = name; type_params = map (λ p. p.name) params }

abbrev pub scope_of : List WrittenParam → ScopeParams
scope_of params = record { params = params }

unfoldable pub inside : Around → List ℕ → List WrittenParam → Around
inside a name params = record {
  cx = record {
    «package» = a.cx.«package»;
    imports = a.cx.imports;
    enclosing = a.cx.enclosing ++ enclosing_class name params ∷ [];
  };
  within = name;
  top = Some (or_itself name a.top);
  scopes = a.scopes ++ scope_of params ∷ [];
}

-- ---- one declared type, by its parts

-- only a class has a superclass (JLS 8.1.4); an interface has its superinterfaces behind `extends` (9.1.3)
unfoldable pub superclass : ClassKind → Parts → Option Written
superclass kind.Class ps = type_at (node_behind EXTENDS false ps)
superclass kind.Interface ps = None
superclass kind.Enum ps = None
superclass kind.Annotation ps = None

abbrev pub before_interfaces : ClassKind → ℕ
before_interfaces kind.Interface = EXTENDS
before_interfaces kind.Class = IMPLEMENTS
before_interfaces kind.Enum = IMPLEMENTS
before_interfaces kind.Annotation = IMPLEMENTS

unfoldable pub interfaces : ClassKind → Parts → List Written
interfaces t ps = listed (node_behind (before_interfaces t) false ps)

unfoldable pub declared : Around → Bool → ClassKind → Parts → DeclaredType
declared a is_private t ps = record {
  name = qualified a ps;
  kind = t;
  top = or_itself (qualified a ps) a.top;
  is_private = is_private;
  cx = a.cx;
  around = a.scopes;
  type_params = type_params ps;
  superclass = superclass t ps;
  interfaces = interfaces t ps;
  fields = fields_in t no_mods ps;
  methods = methods_in no_mods ps;
}

-- ---- all of them

unfoldable pub class_kind : ℕ → Option ClassKind
class_kind k =
    if k == CLASS then Some kind.Class
    else if k == INTERFACE then Some kind.Interface
    else if k == ENUM then Some kind.Enum
    else if k == ANNOTATION_TYPE then Some kind.Annotation
    else None

-- declarations with modifiers, and bodies: the types that they hold count
abbrev pub has_mods : ℕ → Bool
has_mods k = k == TYPE_DECL || k == MEMBER

abbrev pub holds_types : ℕ → Bool
holds_types k = has_mods k || k == BODY

-- whether the types right inside a node are private
unfoldable pub private_inside : ℕ → Parts → Bool
private_inside k kids = has_mods k && says PRIVATE kids

-- where the parts of a node stand
abbrev pub around_in : Around → Option ClassKind → Parts → Around
around_in a None kids = a
around_in a (Some t) kids = inside a (qualified a kids) (type_params kids)

-- the declared types of a node, by those among its parts; a type stands before those in it
abbrev pub node_types : Around → Bool → ℕ → Option ClassKind → Parts → List DeclaredType → List DeclaredType
node_types a is_private k None kids inner = if holds_types k then inner else []
node_types a is_private k (Some t) kids inner = declared a is_private t kids ∷ inner

-- the declared types among trees, in the order of the text
unfoldable pub types_in : Around → Bool → Parts → List DeclaredType
types_in a is_private none = []
types_in a is_private (leaf w f) = types_in a is_private f
types_in a is_private (node _ k kids f) =
    let inner = types_in (around_in a (class_kind k) kids) (private_inside k kids) kids in
    node_types a is_private k (class_kind k) kids inner ++ types_in a is_private f

-- the place of the types of a file
abbrev pub outermost : Parts → Around
outermost ps = record { cx = file_context ps; within = package_name ps; top = None; scopes = [] }

-- the declared types of a file, by the parts of its root
unfoldable pub skeleton_of : Parts → List DeclaredType
skeleton_of ps = types_in (outermost ps) false ps
