-- What a node of each kind gives to the node around it, by what its parts give: one row for each kind. A kind of which no
-- row speaks gives nothing.
use Rattle.std.specs.Prelude.{List, Option, None, Some, map}
use Rattle.java_nodes.specs.Directly.{first_of, leaves_in, words_in}
use Rattle.java_reader.specs.Kinds.{kind_in}
use Rattle.java_reader.specs.declared.kind.Kind.{Kind}
use Rattle.java_reader.specs.declared.kind.Kind.TheVariants as kind
use Rattle.jtypes.specs.declared.types.JPrim.TheVariants.{Boolean}
use Rattle.jtypes.specs.declared.types.JType.TheVariants as ty
use Rattle.j_names.specs.declared.context.Frame.{Frame}
use Rattle.judging.specs.Judging.{Judging, give, and_then}
use Rattle.judged_trees.specs.Tables.{Site}
use Rattle.operator_types.specs.declared.operator.BinaryOperator.TheVariants as operator
use Rattle.j_attrib.specs.Around.{Around, count_of, dims, first_name, first_node, first_word, names}
use Rattle.j_attrib.specs.Declarations.{caught, class_name, constant, declarator, labels, last_of, locals, meant_given}
use Rattle.j_attrib.specs.Declarations.{member, owner_of, parameter, variable}
use Rattle.j_attrib.specs.Expressions.{choice, chain_from, lambda, lone_name, of_type, postfix, primary_given, selected}
use Rattle.j_attrib.specs.Expressions.{signed, sum_from, typed}
use Rattle.j_attrib.specs.Primaries.{behind_dot, creation}
use Rattle.j_attrib.specs.Values.{argument, as_expression, before_in, last_value, operands, params_in, type_in, value_at}
use Rattle.j_attrib.specs.Values.{written_in, rest_of_creation}
use Rattle.j_attrib.specs.WrittenRows.{class_type, import, named_type, outer_type, qualified_name, type_params}
use Rattle.j_attrib.specs.declared.kinds.TheConstants.{SIZE}
use Rattle.j_attrib.specs.declared.value.Given.{Given}
use Rattle.j_attrib.specs.declared.value.Value.{Value}
use Rattle.j_attrib.specs.declared.value.Value.TheVariants as value

module _ (u : Around) (at : Site Given) (vs : List Value) (s : List Frame) where
  -- `vs` are what the node's parts give that are nodes, and `s` is what is in scope at its end
  unfoldable pub row : Kind → Judging Value
  -- expressions
  row kind.Expr = of_type at.number (type_in (value_at vs 0))
  row kind.Cond = choice at.number vs
  row kind.Or = of_type at.number (ty.Prim Boolean)
  row kind.And = of_type at.number (ty.Prim Boolean)
  row kind.Equal = of_type at.number (ty.Prim Boolean)
  row kind.Rel = of_type at.number (ty.Prim Boolean)
  row kind.BitOr = of_type at.number (chain_from operator.Or (operands vs))
  row kind.Xor = of_type at.number (chain_from operator.Xor (operands vs))
  row kind.BitAnd = of_type at.number (chain_from operator.And (operands vs))
  row kind.Shift = of_type at.number (chain_from operator.ShiftLeft (operands vs))
  row kind.Product = of_type at.number (chain_from operator.Multiply (operands vs))
  row kind.Sum = of_type at.number (sum_from (words_in u.tree.leaves at.trees) (operands vs))
  row kind.Unary = of_type at.number (signed (first_word u at.trees) (type_in (value_at vs 0)))
  row kind.Lambda = lambda at.number (names u at.trees)
  row kind.Par = typed at.number (as_expression (value_at vs 0))
  row kind.Postfix = typed at.number (postfix (words_in u.tree.leaves at.trees) (last_value vs))
  row kind.Primary =
      primary_given u at.number s at.given (first_word u at.trees) (first_of (leaves_in at.trees))
      (lone_name (first_word u at.trees) (first_of (leaves_in at.trees)) vs) vs
  row kind.TypeRef = and_then (named_type u s at.trees) (λ v. of_type at.number ty.Unknown)
  row kind.Selector = typed at.number (selected (first_word u at.trees) (before_in at.given) vs)
  row kind.Dot = behind_dot u (before_in at.given) (first_word u at.trees) (first_of (leaves_in at.trees)) vs
  row kind.Creator = creation u (last_of (names u (first_node at.trees))) (value_at vs 0) (value_at vs 1)
  row kind.NewRest = give (rest_of_creation (count_of SIZE at.trees) vs)
  row kind.Size = give (value.Dims 1)
  row kind.Args = give (value.Args (map argument vs))
  -- types, packages and imports
  row kind.Type = outer_type u s at.trees vs
  row kind.ClassType = class_type u s at.trees at.given (names u at.trees)
  row kind.LocalType = named_type u s at.trees
  row kind.NewType = named_type u s at.trees
  row kind.QName = qualified_name u s at.given (names u at.trees)
  row kind.TypeParam = type_params u (names u at.trees)
  row kind.Types = give (value_at vs 0)
  row kind.Import = import u at.trees
  -- declarations
  row kind.Class = class_name u at.given (first_name u at.trees)
  row kind.Interface = class_name u at.given (first_name u at.trees)
  row kind.Enum = class_name u at.given (first_name u at.trees)
  row kind.AnnType = class_name u at.given (first_name u at.trees)
  row kind.Const = constant u (owner_of at.given) (first_name u at.trees)
  row kind.MemberRest =
      member u (owner_of at.given) (meant_given at.given) at.trees (first_name u at.trees) (last_value vs)
  row kind.Generic =
      member u (owner_of at.given) (meant_given at.given) at.trees (first_name u at.trees) (last_value vs)
  row kind.AfterType =
      member u (owner_of at.given) (meant_given at.given) at.trees (first_name u at.trees) (last_value vs)
  row kind.AfterGen =
      member u (owner_of at.given) (meant_given at.given) at.trees (first_name u at.trees) (last_value vs)
  row kind.Method = give (value.Params (params_in vs))
  row kind.Field = give (value.Dims (dims at.trees))
  row kind.Declarator = declarator u at.given (dims at.trees) (first_name u at.trees)
  row kind.Param = parameter u at.trees (first_name u at.trees) (first_of (written_in vs)) vs
  row kind.LParam = parameter u at.trees (first_name u at.trees) (first_of (written_in vs)) vs
  row kind.ForRest = variable at.given (dims at.trees)
  row kind.Resource = locals (caught (written_in vs)) (names u at.trees)
  row kind.Catch = locals (caught (written_in vs)) (names u at.trees)
  row kind.Statement = labels (names u at.trees)
  row other = give value.Nothing

  abbrev pub row_or_nothing : Option Kind → Judging Value
  row_or_nothing None = give value.Nothing
  row_or_nothing (Some k) = row k

unfoldable pub value_of : Around → Site Given → List Value → List Frame → Judging Value
value_of u at vs s = row_or_nothing u at vs s (kind_in at.kind)
