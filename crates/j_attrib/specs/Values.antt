-- What a value is where another node asks for a type, a name, arguments, or parameters.
use Rattle.std.specs.Prelude.{ℕ, ◌-◌, List, [], ◌∷◌, ◌++◌, Option, None, Some, length, slice_get}
use Rattle.std.specs.List.{filter_map}
use Rattle.jtypes.specs.declared.types.JType.{JType}
use Rattle.jtypes.specs.declared.types.JType.TheVariants as ty
use Rattle.java_nodes.specs.Directly.{first_of}
use Rattle.j_overload.specs.declared.argument.ArgType.{ArgType}
use Rattle.j_overload.specs.declared.argument.ArgType.TheVariants as arg
use Rattle.declared_names.specs.declared.parameter.Parameter.{Parameter}
use Rattle.expression_names.specs.Primaries.{type_of}
use Rattle.expression_names.specs.declared.denoted.Denoted.{Denoted}
use Rattle.expression_names.specs.declared.denoted.Denoted.TheVariants.{Class, Expr}
use Rattle.type_positions.specs.WrittenTypes.{known}
use Rattle.type_positions.specs.declared.written.MeantType.{MeantType}
use Rattle.j_attrib.specs.declared.value.Given.{Given}
use Rattle.j_attrib.specs.declared.value.Given.TheVariants as given
use Rattle.j_attrib.specs.declared.value.Value.{Value}
use Rattle.j_attrib.specs.declared.value.Value.TheVariants as value

abbrev pub expr : JType → Value
expr t = value.Denoted (Expr t)

-- the type of an expression, or the one that is written
abbrev pub type_in : Value → JType
type_in (value.Denoted d) = type_of d
type_in (value.Written m) = m.ty
type_in v = ty.Unknown

-- what stands before a dot
abbrev pub denoted_in : Value → Denoted
denoted_in (value.Denoted d) = d
denoted_in v = Expr (type_in v)

-- behind parentheses or `++` a name is no package and no class any more
abbrev pub as_expression : Value → Value
as_expression (value.Denoted d) = expr (type_of d)
as_expression v = v

-- a written type; anything else isn't known
abbrev pub meant_in : Value → MeantType
meant_in (value.Written m) = m
meant_in v = known ty.Unknown

abbrev pub or_nothing : Option Value → Value
or_nothing None = value.Nothing
or_nothing (Some v) = v

abbrev pub value_at : List Value → ℕ → Value
value_at vs k = or_nothing (slice_get vs k)

abbrev pub last_value : List Value → Value
last_value vs = value_at vs (length vs - 1)

-- the types of operands; signs that are nodes of their own give nothing
abbrev pub operand : Value → Option JType
operand value.Nothing = None
operand v = Some (type_in v)

abbrev pub operands : List Value → List JType
operands vs = filter_map operand vs

-- the types that are written
abbrev pub written : Value → Option MeantType
written (value.Written m) = Some m
written v = None

abbrev pub written_in : List Value → List MeantType
written_in vs = filter_map written vs

-- an argument of a call
abbrev pub argument : Value → ArgType
argument value.Function = arg.Function
argument v = arg.Known (type_in v)

-- the arguments of a call, where it has some in parentheses
abbrev pub args : Value → Option (List ArgType)
args (value.Args list) = Some list
args v = None

abbrev pub args_in : List Value → Option (List ArgType)
args_in vs = first_of (filter_map args vs)

-- all parameters, in order
abbrev pub params : Value → List Parameter
params (value.Params list) = list
params v = []

unfoldable pub params_in : List Value → List Parameter
params_in [] = []
params_in (v ∷ vs) = params v ++ params_in vs

-- the class that a type is, or that a name stands for
abbrev pub class_in : JType → Option (List ℕ)
class_in (ty.Class name) = Some name
class_in t = None

abbrev pub class_named : Value → Option (List ℕ)
class_named (value.Denoted (Class name)) = Some name
class_named v = class_in (type_in v)

-- what stands before, to what is given it
abbrev pub before_in : Given → Denoted
before_in (given.Behind d) = d
before_in g = Expr ty.Unknown

-- what stands behind a created type: arguments, or so many dimensions
abbrev pub args_or_dims : ℕ → Option (List ArgType) → Value
args_or_dims n None = value.Dims n
args_or_dims n (Some list) = value.Args list

abbrev pub rest_of_creation : ℕ → List Value → Value
rest_of_creation n vs = args_or_dims n (args_in vs)
