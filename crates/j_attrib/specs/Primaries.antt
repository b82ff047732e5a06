-- Primaries and what stands behind a dot (JLS 6.5, 15.8 to 15.12, 15.20), by their words and what their parts give.
use Rattle.std.specs.Prelude.{ℕ, ◌==◌, List, Option, None, Some, if◌then◌else◌}
use Rattle.java_lex.specs.declared.class.TheConstants as class
use Rattle.jtypes.specs.declared.types.JType.{JType}
use Rattle.jtypes.specs.declared.types.JType.TheVariants as ty
use Rattle.j_names.specs.declared.context.Frame.{Frame}
use Rattle.j_overload.specs.declared.argument.ArgType.{ArgType}
use Rattle.judging.specs.Judging.{Judging, give, and_then}
use Rattle.declared_names.specs.Cases.{case_name}
use Rattle.expression_names.specs.Bodies.{whose_body, this_type, super_type, this_call, super_call}
use Rattle.expression_names.specs.Bodies.{qualified_this, qualified_super}
use Rattle.expression_names.specs.Calls.{call, call_behind, constructing}
use Rattle.expression_names.specs.Primaries.{simple_name, name_behind}
use Rattle.expression_names.specs.declared.denoted.Denoted.{Denoted}
use Rattle.operator_types.specs.Operators.{class_type, literal_type}
use Rattle.operator_types.specs.declared.literal.Literal.{Literal}
use Rattle.type_positions.specs.WrittenTypes.{with_more_dims}
use Rattle.type_positions.specs.declared.written.MeantType.{MeantType}
use Rattle.j_attrib.specs.Around.{Around, name_at}
use Rattle.j_attrib.specs.Values.{args_in, class_in, expr, value_at}
use Rattle.j_attrib.specs.Words.{literal_of}
use Rattle.j_attrib.specs.declared.value.Value.{Value}
use Rattle.j_attrib.specs.declared.value.Value.TheVariants as value

-- a judged type is that of an expression
abbrev pub as_expr : Judging JType → Judging Value
as_expr d = and_then d (λ t. give (expr t))

-- an explicit call of a constructor is no value (JLS 8.8.7.1)
abbrev pub as_void : Judging (Unit {0}) → Judging Value
as_void d = and_then d (λ _. give (expr ty.Void))

abbrev pub literal_or_unknown : Option Literal → JType
literal_or_unknown None = ty.Unknown
literal_or_unknown (Some literal) = literal_type literal

module _ (u : Around) (s : List Frame) where
  -- a name, or a call of a method (JLS 6.5.6.1, 15.12)
  unfoldable pub name_or_call : ℕ → Option (List ArgType) → Judging Value
  name_or_call i None = and_then (simple_name u.context s i (name_at u i)) (λ d. give (value.Denoted d))
  name_or_call i (Some args) = as_expr (call u.context s i (name_at u i) args)

  -- `this` (JLS 15.8.3), or a call of a constructor of the same class
  unfoldable pub this_or_call : ℕ → Option (List ArgType) → Judging Value
  this_or_call i None = give (expr (this_type (whose_body u.context s)))
  this_or_call i (Some args) = as_void (this_call u.context (whose_body u.context s) i args)

  -- `super` (JLS 15.11.2), or a call of a constructor of the superclass
  unfoldable pub super_or_call : ℕ → Option (List ArgType) → Judging Value
  super_or_call i None = as_expr (super_type (whose_body u.context s))
  super_or_call i (Some args) = as_void (super_call u.context (whose_body u.context s) i args)

  -- by the class of the first leaf, which is the `i`th
  unfoldable pub primary : ℕ → ℕ → List Value → Judging Value
  primary c i vs =
      if c == class.ID then name_or_call i (args_in vs)
      else if c == class.THIS then this_or_call i (args_in vs)
      else if c == class.SUPER then super_or_call i (args_in vs)
      else if c == class.NEW then give (value_at vs 0)
      else if c == class.VOID then give (expr class_type)
      else give (expr (literal_or_unknown (literal_of c)))

  -- a simple name in a case label is a constant of an enum that is switched over (JLS 14.11), else what it is elsewhere
  abbrev pub label_or_name : ℕ → Option JType → Judging Value
  label_or_name i None = name_or_call i None
  label_or_name i (Some t) = give (expr t)

  unfoldable pub label : JType → ℕ → Judging Value
  label selector i = and_then (case_name selector i (name_at u i)) (label_or_name i)

-- Behind a dot (JLS 6.5.6.2, 15.8.2, 15.8.4, 15.11, 15.12)

-- a name, or a call of a method
unfoldable pub name_or_call_behind : Around → Denoted → ℕ → Option (List ArgType) → Judging Value
name_or_call_behind u before i None =
    and_then (name_behind u.context before i (name_at u i)) (λ d. give (value.Denoted d))
name_or_call_behind u before i (Some args) = as_expr (call_behind u.context before i (name_at u i) args)

-- by the class of the first leaf
unfoldable pub behind_dot : Around → Denoted → ℕ → Option ℕ → List Value → Judging Value
behind_dot u before c None vs = give value.Nothing
behind_dot u before c (Some i) vs =
    if c == class.CLASS then give (expr class_type)
    else if c == class.THIS then give (expr (qualified_this before))
    else if c == class.SUPER then as_expr (qualified_super before)
    else name_or_call_behind u before i (args_in vs)

-- Creations (JLS 15.9, 15.10)

-- a class that is created; a type variable and a primitive type have no constructors
abbrev pub created : MeantType → Option (List ℕ)
created m = class_in m.ty

abbrev pub constructed : Around → ℕ → MeantType → List ArgType → Judging Value
constructed u i m args =
    and_then (constructing u.context (created m) i args) (λ _. give (expr m.ty))

-- the created type, whose name ends with a leaf, and the arguments or dimensions
unfoldable pub creation : Around → Option ℕ → Value → Value → Judging Value
creation u (Some i) (value.Written m) (value.Args args) = constructed u i m args
creation u None (value.Written m) (value.Args args) = give (expr m.ty)
creation u name (value.Written m) (value.Dims n) = give (expr (with_more_dims n m).ty)
creation u name t rest = give (expr ty.Unknown)
