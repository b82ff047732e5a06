-- Expressions, whose types are noted by their nodes (JLS 15).
use Rattle.std.specs.Prelude.{ℕ, ◌==◌, List, [], ◌∷◌, Option, None, Some, Bool, true, false, ◌&&◌, if◌then◌else◌, map}
use Rattle.java_lex.specs.declared.class.TheConstants as class
use Rattle.jtypes.specs.declared.symbol.Symbol.TheVariants as symbol
use Rattle.jtypes.specs.declared.types.JType.{JType}
use Rattle.jtypes.specs.declared.types.JType.TheVariants as ty
use Rattle.j_names.specs.declared.context.Frame.{Frame}
use Rattle.judging.specs.Judging.{Judging, give, noting, and_then, looking}
use Rattle.judging.specs.declared.log.Note.{Note}
use Rattle.judging.specs.declared.log.Note.TheVariants as note
use Rattle.declared_names.specs.Elements.{element}
use Rattle.expression_names.specs.declared.denoted.Denoted.{Denoted}
use Rattle.operator_types.specs.Arrays.{element_of}
use Rattle.operator_types.specs.Conditional.{conditional}
use Rattle.operator_types.specs.Operators.{chain_type, unary_type}
use Rattle.operator_types.specs.declared.chain.Operation.{Operation}
use Rattle.operator_types.specs.declared.operator.BinaryOperator.{BinaryOperator}
use Rattle.j_attrib.specs.Around.{Around, name_at}
use Rattle.j_attrib.specs.Primaries.{label, primary}
use Rattle.j_attrib.specs.Values.{args_in, as_expression, expr, type_in, value_at}
use Rattle.j_attrib.specs.Words.{sum_operator, unary_operator}
use Rattle.j_attrib.specs.declared.value.Given.{Given}
use Rattle.j_attrib.specs.declared.value.Given.TheVariants as given
use Rattle.j_attrib.specs.declared.value.Value.{Value}
use Rattle.j_attrib.specs.declared.value.Value.TheVariants as value

-- the type of what a node gives is noted
abbrev pub typed : ℕ → Value → Judging Value
typed n v = noting (note.Typed n (type_in v) ∷ []) v

-- a node is an expression of a type
abbrev pub of_type : ℕ → JType → Judging Value
of_type n t = typed n (expr t)

-- `c ? a : b` (JLS 15.25)
unfoldable pub choice : ℕ → List Value → Judging Value
choice n vs = looking (conditional (type_in (value_at vs 1)) (type_in (value_at vs 2))) (of_type n)

-- a cast (JLS 15.16), or an operator before an operand (JLS 15.15)
abbrev pub signed : ℕ → JType → JType
signed c t = if c == class.CAST then t else unary_type (unary_operator c) t

-- chains of one operator (JLS 15.17, 15.19, 15.22); to types all shifts are alike, and so are `*`, `/` and `%`
abbrev pub chain_from : BinaryOperator → List JType → JType
chain_from operator [] = ty.Unknown
chain_from operator (t ∷ ts) = chain_type t (map (λ right. record { operator = operator; right = right }) ts)

-- sums (JLS 15.18): each operator with the operand behind it
unfoldable pub operations : List ℕ → List JType → List Operation
operations (c ∷ cs) (t ∷ ts) = record { operator = sum_operator c; right = t } ∷ operations cs ts
operations cs ts = []

abbrev pub sum_from : List ℕ → List JType → JType
sum_from cs [] = ty.Unknown
sum_from cs (t ∷ ts) = chain_type t (operations cs ts)

-- an operand with `++` or `--` behind it is no name any more (JLS 15.14)
abbrev pub postfix : List ℕ → Value → Value
postfix [] v = v
postfix (c ∷ cs) v = as_expression v

-- a lambda expression (JLS 15.27), whose parameter without parentheses has no type
abbrev pub locals_unknown : List ℕ → List Note
locals_unknown leaves = map (λ i. note.Symbol i (symbol.Local ty.Unknown)) leaves

unfoldable pub lambda : ℕ → List ℕ → Judging Value
lambda n leaves = noting (note.Typed n ty.Unknown ∷ locals_unknown leaves) value.Function

-- behind an expression: a member, an element of an array (JLS 15.13), or the name of a method reference (JLS 15.13)
abbrev pub selected : ℕ → Denoted → List Value → Value
selected c before vs =
    if c == class.BRACKET_OPEN then expr (element_of (type_in (value.Denoted before)))
    else if c == class.COLON_COLON then value.Function
    else value_at vs 0

-- the first leaf, where it is a name alone, without arguments
abbrev pub is_none : {A : Type 0} → Option A → Bool
is_none None = true
is_none (Some a) = false

abbrev pub lone_name : ℕ → Option ℕ → List Value → Option ℕ
lone_name c first vs = if c == class.ID && is_none (args_in vs) then first else None

module _ (u : Around) (n : ℕ) (s : List Frame) where
  -- the name of an annotation's element is no expression (JLS 9.7.1)
  abbrev pub element_name : Option (List ℕ) → ℕ → Judging Value
  element_name annotation i = and_then (element u.context annotation i (name_at u i)) (λ _. give value.Nothing)

  -- a primary by what it is given: a simple name in a case label, or before the `=` of an annotation, has a meaning of its
  -- own
  unfoldable pub primary_given : Given → ℕ → Option ℕ → Option ℕ → List Value → Judging Value
  primary_given (given.Case selector) c first (Some i) vs = and_then (label u s selector i) (typed n)
  primary_given (given.Annotation annotation) c first (Some i) vs = element_name annotation i
  primary_given g c None name vs = of_type n ty.Unknown
  primary_given g c (Some i) name vs = and_then (primary u s c i vs) (typed n)
