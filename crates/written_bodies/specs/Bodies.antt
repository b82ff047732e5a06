-- What the body of a class, an interface or an enum declares, as it is written (JLS 8.2, 8.9.2, 9.2). `trees` are the
-- parts of the body, or those of the enum, whose constants aren't among its fields. What is in a block, an initializer,
-- a nested body or a constant is no member of it. A node with a node as its only part isn't kept in the trees: that part
-- stands in its place.
use Rattle.std.specs.Prelude.{◌≡◌, ℕ, ◌<◌, ◌==◌, ◌||◌, List, [], ◌++◌, Bool, if◌then◌else◌, nat_lt, length, map}
use Rattle.std.specs.Option.{option_to_list}
use Rattle.rw_base.specs.declared.tree.Leaf.{Leaf}
use Rattle.rw_base.specs.Arena.{Arena, kind_of}
use Rattle.rw_base.specs.Trees.{none, leaf, node, Numbered}
use Rattle.java_nodes.specs.Directly.{names_in, kinds_in, count_of, first_of}
use Rattle.written_bodies.specs.declared.fields.WrittenField.{WrittenField}
use Rattle.written_bodies.specs.declared.kinds.TheConstants.{CLASS, INTERFACE, ENUM, ANNOTATION_TYPE}
use Rattle.written_bodies.specs.declared.kinds.TheConstants.{MEMBER, MEMBER_REST, GENERIC, AFTER_GENERIC, AFTER_TYPE}
use Rattle.written_bodies.specs.declared.kinds.TheConstants.{METHOD, FIELD, DIMENSIONS, DECLARATOR}

-- ---- what stands directly in a node

-- its name, if it has one
abbrev pub name_in : List Leaf → Numbered → List ℕ
name_in ls own = option_to_list (first_of (names_in ls own))

-- how many pairs of brackets there are (JLS 10.2)
abbrev pub dims_in : Numbered → ℕ
dims_in own = count_of DIMENSIONS (kinds_in own)

abbrev pub has_method : Numbered → Bool
has_method own = nat_lt 0 (count_of METHOD (kinds_in own))

-- ---- classes (JLS 8.5, 9.5)

abbrev pub is_class : ℕ → Bool
is_class k = k == CLASS || k == INTERFACE || k == ENUM || k == ANNOTATION_TYPE

-- their names; a class with modifiers stands behind these in a Member
abbrev pub classes_in : List Leaf → Numbered → List ℕ
classes_in ls none = []
classes_in ls (leaf i rest) = classes_in ls rest
classes_in ls (node n k own rest) =
    (if is_class k then name_in ls own else if k == MEMBER then classes_in ls own else []) ++ classes_in ls rest

-- ---- methods (JLS 8.4, 9.4, 9.6.1)

-- the nodes that may stand around the name of a method: behind its modifiers, its type parameters and its type
abbrev pub is_around_name : ℕ → Bool
is_around_name k = k == MEMBER || k == MEMBER_REST || k == GENERIC || k == AFTER_GENERIC || k == AFTER_TYPE

-- their names; that of a constructor stands in the place of its type, so that it has none here (JLS 8.8)
abbrev pub methods_in : List Leaf → Numbered → List ℕ
methods_in ls none = []
methods_in ls (leaf i rest) = methods_in ls rest
methods_in ls (node n k own rest) =
    (if is_around_name k then (if has_method own then name_in ls own else methods_in ls own) else [])
    ++ methods_in ls rest

-- ---- fields (JLS 8.3, 9.3)

-- what the nodes of a kind among some trees give, in order
abbrev pub of_each : {A : Type 0} → ℕ → (Numbered → List A) → Numbered → List A
of_each kind f none = []
of_each kind f (leaf i rest) = of_each kind f rest
of_each kind f (node n k own rest) = (if k == kind then f own else []) ++ of_each kind f rest

-- the fields of a type that have these names, with the brackets behind the name
abbrev pub named_fields : ℕ → ℕ → Numbered → List ℕ → List WrittenField
named_fields ty kind brackets names =
    map (λ name. record { name = name; dims = dims_in brackets; ty = record { 0 = ty }; kind = kind }) names

-- those behind the first of a declaration
abbrev pub more_fields : List Leaf → ℕ → ℕ → Numbered → List WrittenField
more_fields ls ty kind trees = of_each DECLARATOR (λ own. named_fields ty kind own (name_in ls own)) trees

-- All of a declaration: the name of the first stands before the Field, and the brackets behind it in the Field.
abbrev pub declared_fields : List Leaf → ℕ → ℕ → List ℕ → Numbered → List WrittenField
declared_fields ls ty kind names trees =
    of_each FIELD (λ own. named_fields ty kind own names ++ more_fields ls ty kind own) trees

-- those of what stands behind a type
abbrev pub fields_behind : List Leaf → ℕ → ℕ → Numbered → List WrittenField
fields_behind ls ty kind trees = of_each AFTER_TYPE (λ own. declared_fields ls ty kind (name_in ls own) own) trees

-- those of a member without its modifiers: it begins with the type, if it declares fields
abbrev pub fields_of_member : List Leaf → Numbered → List WrittenField
fields_of_member ls none = []
fields_of_member ls (leaf i rest) = []
fields_of_member ls (node n k own rest) = fields_behind ls n k rest

abbrev pub fields_in : List Leaf → Numbered → List WrittenField
fields_in ls none = []
fields_in ls (leaf i rest) = fields_in ls rest
fields_in ls (node n k own rest) =
    (if k == MEMBER then fields_in ls own else if k == MEMBER_REST then fields_of_member ls own else [])
    ++ fields_in ls rest

-- ---- where they lie

-- a field of a tree: its name is a leaf, and its type a node of that kind
pub record IsFieldOf (t : Arena) (f : WrittenField) : Type 0 where
  pub name : f.name < length t.leaves
  pub ty : f.ty.0 < length t.nodes
  pub kind : f.kind ≡ kind_of t.nodes f.ty.0
