-- Declared names (JLS 6.1): classes, fields, methods, constructors, parameters and locals.
use Rattle.std.specs.Prelude.{ℕ, ◌+◌, List, [], ◌∷◌, Option, None, Some, if◌then◌else◌, map}
use Rattle.rw_base.specs.Trees.{Numbered}
use Rattle.java_lex.specs.declared.class.TheConstants.{ELLIPSIS}
use Rattle.java_nodes.specs.Directly.{has_word}
use Rattle.jtypes.specs.declared.symbol.Symbol.{Symbol}
use Rattle.jtypes.specs.declared.symbol.Symbol.TheVariants as symbol
use Rattle.jtypes.specs.declared.types.JType.{JType}
use Rattle.jtypes.specs.declared.types.JType.TheVariants as ty
use Rattle.judging.specs.Judging.{Judging, give, noting, and_then}
use Rattle.judging.specs.declared.log.Note.TheVariants as note
use Rattle.declared_names.specs.Declarations.{declared_constant, declared_constructor, declared_field, declared_method}
use Rattle.declared_names.specs.Declarations.{parameter_notes}
use Rattle.declared_names.specs.declared.parameter.Parameter.{Parameter}
use Rattle.type_positions.specs.WrittenTypes.{known, with_more_dims}
use Rattle.type_positions.specs.declared.written.MeantType.{MeantType}
use Rattle.j_attrib.specs.Around.{Around, dims, first_node, name_at, names}
use Rattle.j_attrib.specs.Values.{params_in}
use Rattle.j_attrib.specs.declared.value.Given.{Given}
use Rattle.j_attrib.specs.declared.value.Given.TheVariants as given
use Rattle.j_attrib.specs.declared.value.Value.{Value}
use Rattle.j_attrib.specs.declared.value.Value.TheVariants as value

-- leaves mean this, and the node gives nothing
abbrev pub meaning : Symbol → List ℕ → Judging Value
meaning s leaves = noting (map (λ i. note.Symbol i s) leaves) value.Nothing

-- nothing is given
abbrev pub done_noting : Judging (Unit {0}) → Judging Value
done_noting d = and_then d (λ _. give value.Nothing)

-- the type with dimensions behind a name (JLS 10.2)
abbrev pub type_with : ℕ → MeantType → JType
type_with n m = (with_more_dims n m).ty

abbrev pub owner_of : Given → Option (List ℕ)
owner_of (given.Member owner) = owner
owner_of (given.Fields m owner) = owner
owner_of g = None

abbrev pub meant_given : Given → MeantType
meant_given (given.Fields m owner) = m
meant_given g = known ty.Unknown

abbrev pub last_of : {A : Type 0} → List A → Option A
last_of [] = None
last_of (x ∷ []) = Some x
last_of (x ∷ y ∷ ys) = last_of (y ∷ ys)

-- of several types a caught exception isn't known (JLS 14.20)
abbrev pub caught : List MeantType → JType
caught (m ∷ []) = m.ty
caught ms = ty.Unknown

-- a label, declared or named (JLS 14.7, 14.15, 14.16)
unfoldable pub labels : List ℕ → Judging Value
labels leaves = meaning symbol.Label leaves

-- a local with a type (JLS 14.4.1, 14.14, 14.20)
unfoldable pub locals : JType → List ℕ → Judging Value
locals t leaves = meaning (symbol.Local t) leaves

-- the variable of a `for`
unfoldable pub variable : Given → ℕ → Judging Value
variable (given.Variable i m) n = locals (type_with n m) (i ∷ [])
variable g n = give value.Nothing

module _ (u : Around) where
  -- a declared class is a type where it has a qualified name; a local class isn't known
  unfoldable pub class_name : Given → Option ℕ → Judging Value
  class_name g None = give value.Nothing
  class_name (given.Head name) (Some i) = meaning (symbol.Kind name) (i ∷ [])
  class_name g (Some i) = meaning symbol.Unknown (i ∷ [])

  -- a declarator of locals or of fields
  unfoldable pub declarator : Given → ℕ → Option ℕ → Judging Value
  declarator (given.Locals m) n (Some i) = locals (type_with n m) (i ∷ [])
  declarator (given.Fields m owner) n (Some i) = done_noting (declared_field owner i (name_at u i) (type_with n m))
  declarator g n name = give value.Nothing

  unfoldable pub constant : Option (List ℕ) → Option ℕ → Judging Value
  constant owner None = give value.Nothing
  constant owner (Some i) = done_noting (declared_constant owner i (name_at u i))

  -- the name of a constructor ends its type (JLS 8.8)
  abbrev pub constructor_name : Numbered → Option ℕ
  constructor_name trees = last_of (names u (first_node trees))

  abbrev pub constructor : Option (List ℕ) → Option ℕ → List Parameter → Judging Value
  constructor owner None ps = give value.Nothing
  constructor owner (Some i) ps = done_noting (declared_constructor owner i ps)

  -- a member by its own name and what its last part gives: a field, a method, or a constructor, which has no name of its
  -- own
  unfoldable pub member : Option (List ℕ) → MeantType → Numbered → Option ℕ → Value → Judging Value
  member owner m trees (Some i) (value.Dims n) = done_noting (declared_field owner i (name_at u i) (type_with n m))
  member owner m trees (Some i) (value.Params ps) = done_noting (declared_method owner i (name_at u i) ps)
  member owner m trees None (value.Params ps) = constructor owner (constructor_name trees) ps
  member owner m trees name v = give value.Nothing

  -- a parameter (JLS 8.4.1), with `...` as a dimension; that of a lambda expression may have no type
  abbrev pub more_dims_of : Numbered → ℕ
  more_dims_of trees = dims trees + (if has_word ELLIPSIS u.tree.leaves trees then 1 else 0)

  abbrev pub parameter_of : ℕ → ℕ → MeantType → Parameter
  parameter_of i n m = record { leaf = i; ty = type_with n m; is_variable = m.is_variable }

  unfoldable pub parameter : Numbered → Option ℕ → Option MeantType → List Value → Judging Value
  parameter trees (Some i) (Some m) vs =
      let p = parameter_of i (more_dims_of trees) m in noting (parameter_notes (p ∷ [])) (value.Params (p ∷ []))
  parameter trees name m vs = give (value.Params (params_in vs))
