-- What a part of a node is given: by the node's kind, what the node is given, and what the parts before it give.
use Rattle.std.specs.Prelude.{ℕ, ◌==◌, List, [], ◌∷◌, Option, None, Some, Bool, false, if◌then◌else◌}
use Rattle.rw_base.specs.Trees.{none, leaf, node, Numbered}
use Rattle.java_reader.specs.Kinds.{kind_in}
use Rattle.java_reader.specs.declared.kind.Kind.{Kind}
use Rattle.java_reader.specs.declared.kind.Kind.TheVariants as kind
use Rattle.judged_trees.specs.Tables.{Site}
use Rattle.j_attrib.specs.Around.{Around, first_name}
use Rattle.j_attrib.specs.Declarations.{owner_of}
use Rattle.j_attrib.specs.Values.{class_named, denoted_in, last_value, meant_in, type_in, value_at}
use Rattle.j_attrib.specs.declared.kinds.TheConstants.{ANNOTATION_ARGUMENT, CLASS_TYPE, METHOD}
use Rattle.j_attrib.specs.declared.value.Given.{Given}
use Rattle.j_attrib.specs.declared.value.Given.TheVariants as given
use Rattle.j_attrib.specs.declared.value.Value.{Value}

-- a class type directly before a Method is that of a constructor (JLS 8.8)
abbrev pub begins_method : Numbered → Bool
begins_method none = false
begins_method (leaf i rest) = false
begins_method (node n k own rest) = k == METHOD

abbrev pub is_constructor : ℕ → Numbered → Bool
is_constructor part behind = if part == CLASS_TYPE then begins_method behind else false

-- to the parts of a member: the type before them and the class
abbrev pub to_member : Given → List Value → ℕ → Numbered → Given
to_member g vs part behind =
    if is_constructor part behind then given.Constructor else given.Fields (meant_in (last_value vs)) (owner_of g)

-- the type that is switched over, to a label
abbrev pub case_of : Given → Given
case_of (given.Switch t) = given.Case t
case_of g = given.Nothing

abbrev pub variable_of : Option ℕ → Value → Given
variable_of None v = given.Nothing
variable_of (Some i) v = given.Variable i (meant_in v)

-- behind the variable of a `for` further ones may be declared, of the same type
abbrev pub locals_of : Given → Given
locals_of (given.Variable i m) = given.Locals m
locals_of g = given.Nothing

-- a lambda's parameter without a type is a lone name
abbrev pub lambda_param : Option ℕ → Given
lambda_param None = given.LambdaParam
lambda_param (Some i) = given.Nothing

-- the class that an annotation names, to its arguments
abbrev pub to_argument : List Value → ℕ → Given
to_argument vs part =
    if part == ANNOTATION_ARGUMENT then given.Annotation (class_named (value_at vs 0)) else given.Nothing

-- the name of an element stands before its value
abbrev pub element_of : Given → List Value → Given
element_of g [] = g
element_of g (v ∷ vs) = given.Nothing

module _ (u : Around) (at : Site Given) (vs : List Value) (part : ℕ) (behind : Numbered) where
  -- `vs` is what the parts before it give, `part` its kind, and `behind` are the trees behind it
  unfoldable pub given_by : Kind → Given
  given_by kind.Postfix = given.Behind (denoted_in (last_value vs))
  given_by kind.Selector = at.given
  given_by kind.Creator = given.Created (class_named (value_at vs 0))
  given_by kind.NewRest = at.given
  given_by kind.Local = given.Locals (meant_in (value_at vs 0))
  given_by kind.ForVar = variable_of (first_name u at.trees) (value_at vs 0)
  given_by kind.ForRest = locals_of at.given
  given_by kind.Member = at.given
  given_by kind.MemberRest = to_member at.given vs part behind
  given_by kind.Generic = to_member at.given vs part behind
  given_by kind.AfterType = at.given
  given_by kind.Field = at.given
  given_by kind.Body = given.Member None
  given_by kind.Enum = given.Member None
  given_by kind.Const = given.Created (owner_of at.given)
  given_by kind.Statement = given.Switch (type_in (value_at vs 0))
  given_by kind.Group = at.given
  given_by kind.CaseLabel = case_of at.given
  given_by kind.Annotation = to_argument vs part
  given_by kind.AnnArg = element_of at.given vs
  given_by kind.Package = given.PackageName
  given_by kind.Lambda = given.LambdaParam
  given_by kind.LParam = lambda_param (first_name u at.trees)
  given_by other = given.Nothing

abbrev pub or_no_given : (Kind → Given) → Option Kind → Given
or_no_given f None = given.Nothing
or_no_given f (Some k) = f k

-- a part is the first of the trees `from` it on
unfoldable pub given_to : Around → Site Given → Numbered → List Value → Given
given_to u at (node n k own rest) vs = or_no_given (given_by u at vs k rest) (kind_in at.kind)
given_to u at from vs = given.Nothing
