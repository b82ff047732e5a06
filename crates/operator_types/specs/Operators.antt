-- The types of literals, and of operators by the types of their operands (JLS 15.8.1, 15.14 to 15.24).
use Rattle.std.specs.Prelude.{List, Option, None, Some, Bool, false, ◌&&◌, ◌||◌, if◌then◌else◌, fold, codes}
use Rattle.jtypes.specs.Primitives.{prim_eq, unboxed_type, promoted_types}
use Rattle.jtypes.specs.Subtype.{object_name, type_eq}
use Rattle.jtypes.specs.declared.types.JPrim.{JPrim}
use Rattle.jtypes.specs.declared.types.JPrim.TheVariants.{Boolean, Char, Int, Long, Float, Double}
use Rattle.jtypes.specs.declared.types.JType.{JType}
use Rattle.jtypes.specs.declared.types.JType.TheVariants.{Prim, Class, Null}
use Rattle.operator_types.specs.declared.chain.Operation.{Operation}
use Rattle.operator_types.specs.declared.literal.Literal.{Literal}
use Rattle.operator_types.specs.declared.literal.Literal.TheVariants as literal
use Rattle.operator_types.specs.declared.operator.BinaryOperator.{BinaryOperator}
use Rattle.operator_types.specs.declared.operator.BinaryOperator.TheVariants as binary
use Rattle.operator_types.specs.declared.operator.UnaryOperator.{UnaryOperator}
use Rattle.operator_types.specs.declared.operator.UnaryOperator.TheVariants as unary

-- ---- classes that expressions have by themselves

-- the class of string literals and of concatenations (JLS 3.10.5, 15.18.1)
unfoldable pub string_type : JType
string_type = Class (codes "java.lang.String")

-- the class of class literals (JLS 15.8.2)
unfoldable pub class_type : JType
class_type = Class (codes "java.lang.Class")

-- the class whose members arrays have (JLS 10.7)
unfoldable pub object_type : JType
object_type = Class object_name

-- ---- literals (JLS 15.8.1)

abbrev pub literal_type : Literal → JType
literal_type literal.Int = Prim Int
literal_type literal.Long = Prim Long
literal_type literal.Float = Prim Float
literal_type literal.Double = Prim Double
literal_type literal.Char = Prim Char
literal_type literal.String = string_type
literal_type literal.Boolean = Prim Boolean
literal_type literal.Null = Null

-- ---- one operand

-- unary numeric promotion (JLS 5.6.1): a number unboxed, and no smaller than int
abbrev pub promoted_type : JType → JType
promoted_type t = promoted_types t (Prim Int)

abbrev pub unary_type : UnaryOperator → JType → JType
-- JLS 15.14.2, 15.15.1
unary_type unary.Increment t = t
-- JLS 15.14.3, 15.15.2
unary_type unary.Decrement t = t
-- JLS 15.15.3
unary_type unary.Plus t = promoted_type t
-- JLS 15.15.4
unary_type unary.Minus t = promoted_type t
-- JLS 15.15.5
unary_type unary.BitwiseComplement t = promoted_type t
-- JLS 15.15.6
unary_type unary.LogicalComplement t = Prim Boolean

-- ---- two operands

-- a String where one operand is one (JLS 15.18.1), else binary numeric promotion (JLS 15.18.2)
abbrev pub sum_type : JType → JType → JType
sum_type a b = if type_eq a string_type || type_eq b string_type then string_type else promoted_types a b

abbrev pub is_boolean : Option JPrim → Bool
is_boolean None = false
is_boolean (Some p) = prim_eq p Boolean

-- boolean where both operands unbox to boolean (JLS 15.22.2), else binary numeric promotion (JLS 15.22.1)
abbrev pub bitwise_type : JType → JType → JType
bitwise_type a b =
    if is_boolean (unboxed_type a) && is_boolean (unboxed_type b) then Prim Boolean else promoted_types a b

abbrev pub binary_type : BinaryOperator → JType → JType → JType
-- JLS 15.17
binary_type binary.Multiply a b = promoted_types a b
binary_type binary.Divide a b = promoted_types a b
binary_type binary.Remainder a b = promoted_types a b
-- JLS 15.18
binary_type binary.Add a b = sum_type a b
binary_type binary.Subtract a b = promoted_types a b
-- JLS 15.19: the left operand alone
binary_type binary.ShiftLeft a b = promoted_type a
binary_type binary.ShiftRight a b = promoted_type a
binary_type binary.UnsignedShiftRight a b = promoted_type a
-- JLS 15.20
binary_type binary.Less a b = Prim Boolean
binary_type binary.Greater a b = Prim Boolean
binary_type binary.LessOrEqual a b = Prim Boolean
binary_type binary.GreaterOrEqual a b = Prim Boolean
binary_type binary.InstanceOf a b = Prim Boolean
-- JLS 15.21
binary_type binary.Equal a b = Prim Boolean
binary_type binary.NotEqual a b = Prim Boolean
-- JLS 15.22
binary_type binary.And a b = bitwise_type a b
binary_type binary.Xor a b = bitwise_type a b
binary_type binary.Or a b = bitwise_type a b
-- JLS 15.23, 15.24
binary_type binary.ConditionalAnd a b = Prim Boolean
binary_type binary.ConditionalOr a b = Prim Boolean

-- ---- chains

-- operators of one precedence group from the left (JLS 15.7.3, 15.17 to 15.24)
abbrev pub chain_type : JType → List Operation → JType
chain_type first rest = fold (λ t o. binary_type o.operator t o.right) first rest
