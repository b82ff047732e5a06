-- The units of a file: its package and imports, the head of each type, and each member. (In the Java Language
-- Specification: compilation units in 7.3, types and their members in 8 and 9, enum constants in 8.9.1.)
use Rattle.std.specs.Prelude.{ℕ, ◌+◌, ◌<◌, ◌^◌, ◌==◌, Bool, true, false, ◌||◌, List, [], ◌∷◌, ◌++◌}
use Rattle.std.specs.Prelude.{length, Option, Some, None, unwrap_or, if◌then◌else◌}
use Rattle.rw_base.specs.Trees.{Trees, none, leaf, node, width, size}
use Rattle.rw_base.specs.Arena.{Arena}
use Rattle.rw_base.specs.Laid.{kids_of}
use Rattle.rw_grammar.specs.Results.{class_in}
use Rattle.java_lex.specs.declared.class.TheConstants.{BRACE_OPEN}
use Rattle.java_reader.specs.declared.role.Role.{Role}
use Rattle.java_reader.specs.declared.role.Role.TheVariants.{Declares, Modified, Holds, Stands, Plain}
use Rattle.java_reader.specs.declared.kind.Kind.{Kind}
use Rattle.java_reader.specs.declared.kind.Kind.TheVariants.{Class, Interface, Enum, AnnType, TypeDecl, Member, Body}
use Rattle.java_reader.specs.declared.kind.Kind.TheVariants.{Const, MemberRest, Block}
use Rattle.java_reader.specs.Kinds.{kind_in}
use Rattle.java_reader.specs.declared.unit.UnitKind.{UnitKind}
use Rattle.java_reader.specs.declared.unit.UnitKind.TheVariants as unit_kind
use Rattle.java_reader.specs.declared.unit.UnitRef.{UnitRef}

-- What a node of a kind is to the units: it declares a type, has modifiers and a declaration, is a body, or a member. A
-- Block in a body is an initializer; those in methods lie in members, where nobody looks.
abbrev pub role : Kind → Role
role Class = Declares
role Interface = Declares
role Enum = Declares
role AnnType = Declares
role TypeDecl = Modified
role Member = Modified
role Body = Holds
role Const = Stands
role MemberRest = Stands
role Block = Stands
role _ = Plain

abbrev pub role_or_plain : Option Kind → Role
role_or_plain None = Plain
role_or_plain (Some kind) = role kind

unfoldable pub role_of : ℕ → Role
role_of number = role_or_plain (kind_in number)

abbrev pub unit : UnitKind → ℕ → ℕ → ℕ → UnitRef
unit kind first past owner = record { kind = kind; first = first; past = past; owner = owner }

-- where the leaves of a declaration begin: with its modifiers, where these stand around it
abbrev pub begin : Option ℕ → ℕ → ℕ
begin outer at = unwrap_or outer at

-- What is handed to the parts of a node: the number of the next unit, that of the head around, and where modifiers
-- begin.
abbrev pub next_in : Role → ℕ → ℕ
next_in Declares n = n + 1
next_in _ n = n

abbrev pub owner_in : Role → ℕ → ℕ → ℕ
owner_in Declares n owner = n
owner_in _ n owner = owner

abbrev pub outer_in : Role → ℕ → Option ℕ
outer_in Modified at = Some at
outer_in _ at = None

abbrev pub is_type : Role → Bool
is_type Declares = true
is_type _ = false

abbrev pub is_body : Role → Bool
is_body Holds = true
is_body _ = false

abbrev pub is_plain : Role → Bool
is_plain Plain = true
is_plain _ = false

-- whether a type is declared among these
unfoldable pub declares : {N : Type 0} → Trees N ℕ → Bool
declares none = false
declares (leaf l f) = declares f
declares (node _ k kids f) = is_type (role_of k) || declares f

-- whether there is a node among these
unfoldable pub some_node : {N : Type 0} → Trees N ℕ → Bool
some_node none = false
some_node (leaf l f) = some_node f
some_node (node _ k kids f) = true

-- c tells the class of each leaf.
module _ (c : ℕ → ℕ) where
  -- the leaves of a declaration up to before its body
  unfoldable pub head_width : {N : Type 0} → Trees N ℕ → ℕ
  head_width none = 0
  head_width (leaf l f) = if c l == BRACE_OPEN then 0 else 1 + head_width f
  head_width (node _ k kids f) = if is_body (role_of k) then 0 else width kids + head_width f

  -- The units of a node, by those of its parts: a type's head before its members; of modifiers with a type its units,
  -- and with anything else one member.
  abbrev pub of_node : {N : Type 0} → Role → ℕ → ℕ → ℕ → Trees N ℕ → List UnitRef → List UnitRef
  of_node Declares owner from at kids inner = unit unit_kind.Head from (at + head_width kids) owner ∷ inner
  of_node Modified owner from at kids inner =
      if declares kids then inner
      else if some_node kids then unit unit_kind.Member at (at + width kids) owner ∷ []
      else []
  of_node Holds owner from at kids inner = inner
  of_node Stands owner from at kids inner = unit unit_kind.Member at (at + width kids) owner ∷ []
  of_node Plain owner from at kids inner = []

  -- The units of trees whose first leaf is the one numbered at, in their order: the next unit has the number n, the
  -- head around has the number owner, and modifiers around begin with leaf outer.
  unfoldable pub units_in : {N : Type 0} → ℕ → ℕ → Option ℕ → ℕ → Trees N ℕ → List UnitRef
  units_in n owner outer at none = []
  units_in n owner outer at (leaf l f) = units_in n owner outer (at + 1) f
  units_in n owner outer at (node _ k kids f) =
      let inner = units_in (next_in (role_of k) n) (owner_in (role_of k) n owner) (outer_in (role_of k) at) at kids in
      let here = of_node (role_of k) owner (begin outer at) at kids inner in
      here ++ units_in (n + length here) owner outer (at + width kids) f

  -- The units of one node.
  abbrev pub node_units : {N : Type 0} → ℕ → ℕ → Option ℕ → ℕ → Role → Trees N ℕ → List UnitRef
  node_units n owner outer at r kids =
      of_node r owner (begin outer at) at kids (units_in (next_in r n) (owner_in r n owner) (outer_in r at) at kids)

-- The leaves of the package and the imports: those before the first declaration.
unfoldable pub top_width : {N : Type 0} → Trees N ℕ → ℕ
top_width none = 0
top_width (leaf l f) = 0
top_width (node _ k kids f) = if is_plain (role_of k) then width kids + top_width f else 0

-- the units of a file
unfoldable pub units_of : Arena → List UnitRef
units_of t =
    unit unit_kind.Top 0 (top_width (kids_of t.nodes t.root)) 0
    ∷ units_in (class_in t.leaves) 1 0 None 0 (kids_of t.nodes t.root)

-- The nodes are fewer than a number of 32 bits tells, as in each tree that was read.
abbrev pub HasFewNodes : Arena → Type 0
HasFewNodes t = size (kids_of t.nodes t.root) + 1 < 2 ^ 32
