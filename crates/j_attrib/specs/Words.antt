-- What the words of Java (JLS 3.9 to 3.12) are to types: literals, operators and primitive types.
use Rattle.std.specs.Prelude.{ℕ, ◌==◌, List, Option, None, Some, if◌then◌else◌, codes}
use Rattle.jtypes.specs.declared.types.JPrim.{JPrim}
use Rattle.jtypes.specs.declared.types.JPrim.TheVariants as prim
use Rattle.jtypes.specs.World.{name_eq}
use Rattle.java_lex.specs.declared.class.TheConstants as class
use Rattle.operator_types.specs.declared.literal.Literal.{Literal}
use Rattle.operator_types.specs.declared.literal.Literal.TheVariants as literal
use Rattle.operator_types.specs.declared.operator.BinaryOperator.{BinaryOperator}
use Rattle.operator_types.specs.declared.operator.BinaryOperator.TheVariants as binary
use Rattle.operator_types.specs.declared.operator.UnaryOperator.{UnaryOperator}
use Rattle.operator_types.specs.declared.operator.UnaryOperator.TheVariants as unary

-- the literal of a class of leaves
abbrev pub literal_of : ℕ → Option Literal
literal_of c =
    if c == class.INT then Some literal.Int
    else if c == class.LONG then Some literal.Long
    else if c == class.FLOAT then Some literal.Float
    else if c == class.DOUBLE then Some literal.Double
    else if c == class.CHAR then Some literal.Char
    else if c == class.STRING then Some literal.String
    else if c == class.BOOL then Some literal.Boolean
    else if c == class.NULL then Some literal.Null
    else None

-- the operator before an operand
abbrev pub unary_operator : ℕ → UnaryOperator
unary_operator c =
    if c == class.PLUS_PLUS then unary.Increment
    else if c == class.MINUS_MINUS then unary.Decrement
    else if c == class.PLUS then unary.Plus
    else if c == class.MINUS then unary.Minus
    else if c == class.NOT then unary.LogicalComplement
    else unary.BitwiseComplement

-- the operator of a sum
abbrev pub sum_operator : ℕ → BinaryOperator
sum_operator c = if c == class.PLUS then binary.Add else binary.Subtract

-- the primitive type that a text names
abbrev pub prim_named : List ℕ → JPrim
prim_named text =
    if name_eq text (codes "boolean") then prim.Boolean
    else if name_eq text (codes "byte") then prim.Byte
    else if name_eq text (codes "short") then prim.Short
    else if name_eq text (codes "char") then prim.Char
    else if name_eq text (codes "int") then prim.Int
    else if name_eq text (codes "long") then prim.Long
    else if name_eq text (codes "float") then prim.Float
    else prim.Double
