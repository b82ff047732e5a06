-- What is in scope where (JLS 6.3, 6.4.1), inside of a unit: the scopes for a part of a node, between those around the
-- node and the part, and those that a node leaves to what stands behind it.
use Rattle.std.specs.Prelude.{ℕ, ◌==◌, ◌||◌, List, [], ◌∷◌, ◌++◌, Option, None, Some, Bool, true, false, if◌then◌else◌}
use Rattle.std.specs.Prelude.{map, filter}
use Rattle.rw_base.specs.Trees.{none, leaf, node, Numbered}
use Rattle.java_lex.specs.declared.class.TheConstants.{COLON}
use Rattle.java_reader.specs.Kinds.{kind_in}
use Rattle.java_reader.specs.declared.kind.Kind.{Kind}
use Rattle.java_reader.specs.declared.kind.Kind.TheVariants as kind
use Rattle.jtypes.specs.declared.types.JType.{JType}
use Rattle.jtypes.specs.declared.types.JType.TheVariants.{Unknown}
use Rattle.j_names.specs.declared.context.Frame.{Frame}
use Rattle.j_names.specs.declared.context.Frame.TheVariants.{Local, TypeParam}
use Rattle.judging.specs.Judging.{Judging, give, and_then}
use Rattle.judged_trees.specs.Tables.{Site}
use Rattle.declared_names.specs.declared.parameter.Parameter.{Parameter}
use Rattle.type_positions.specs.declared.written.MeantType.{MeantType}
use Rattle.j_attrib.specs.Around.{Around, count_of, dims, first_name, first_word, name_at, names}
use Rattle.j_attrib.specs.Bodies.{body_scopes, declared}
use Rattle.j_attrib.specs.Declarations.{caught, type_with}
use Rattle.j_attrib.specs.Values.{class_in, params_in, written_in}
use Rattle.j_attrib.specs.declared.kinds.TheConstants.{BLOCK, BODY, CATCH, CLASS_TYPE, LAMBDA_PARAMETER, TYPE, TYPES}
use Rattle.j_attrib.specs.declared.value.Given.{Given}
use Rattle.j_attrib.specs.declared.value.Given.TheVariants as given
use Rattle.j_attrib.specs.declared.value.Value.{Value}

-- ---- locals

module _ (u : Around) where
  abbrev pub local : JType → ℕ → Frame
  local t i = Local (name_at u i) t

  abbrev pub locals : JType → List ℕ → List Frame
  locals t leaves = map (local t) leaves

  abbrev pub parameters : List Parameter → List Frame
  parameters ps = map (λ p. local p.ty p.leaf) ps

  -- a declared local counts in its own initializer (JLS 6.3); a declared field is none
  abbrev pub declared_local : Given → ℕ → Option ℕ → List Frame
  declared_local (given.Locals m) n (Some i) = local (type_with n m) i ∷ []
  declared_local g n name = []

  -- the variable of a `for`
  abbrev pub variable : Given → ℕ → List Frame
  variable (given.Variable i m) n = local (type_with n m) i ∷ []
  variable g n = []

  -- a resource counts in its own initializer (JLS 14.20.3)
  abbrev pub resource : List MeantType → List ℕ → List Frame
  resource [] leaves = []
  resource (m ∷ ms) leaves = locals (caught (m ∷ ms)) leaves

  -- the type parameters among the parts of a list of them, each in scope in all
  abbrev pub type_params : Numbered → List Frame
  type_params none = []
  type_params (leaf i rest) = type_params rest
  type_params (node n k own rest) = map (λ i. TypeParam (name_at u i)) (names u own) ++ type_params rest

abbrev pub is_local : Frame → Bool
is_local (Local name t) = true
is_local frame = false

-- the scopes that are there, or else these
abbrev pub or_these : List Frame → List Frame → List Frame
or_these [] these = these
or_these (f ∷ more) these = f ∷ more

-- ---- classes

-- a class with a qualified name is no scope of the unit in which its head is judged
abbrev pub own_name : Around → Given → List ℕ → List Frame
own_name u (given.Head name) leaves = []
own_name u g leaves = declared u leaves

-- the named supertype of a local class: the first type that it writes (JLS 8.1.4, 8.1.5)
abbrev pub first_class : List MeantType → Option (List ℕ)
first_class [] = None
first_class (m ∷ ms) = class_in m.ty

-- the class that an anonymous class extends or implements
abbrev pub created : Given → Option (List ℕ)
created (given.Created class) = class
created (given.Member owner) = owner
created g = None

abbrev pub is_written_type : ℕ → Bool
is_written_type part = part == CLASS_TYPE || part == TYPE || part == TYPES

-- scopes and then those of a body in them
abbrev pub with_body : Around → List Frame → List Frame → Bool → Option (List ℕ) → Numbered → Judging (List Frame)
with_body u around front anonymous supertype members =
    and_then (body_scopes u (around ++ front) anonymous supertype members) (λ body. give (front ++ body))

module _ (u : Around) (at : Site Given) (part : ℕ) (own from : Numbered) (vs : List Value) (around left : List Frame) where
  -- `part` is the kind of the part, `own` are its trees, `from` the trees from it on, `vs` is what the parts before it give,
  -- `around` the scopes around the node, and `left` what is there from the parts before it

  -- The name and the type parameters of a local class are in scope in all of it, its members in its body.
  abbrev pub class_scopes : Judging (List Frame)
  class_scopes =
      let front = or_these left (own_name u at.given (names u at.trees)) in
      if part == BODY then with_body u around front false (first_class (written_in vs)) own else give front

  -- the constants and members of a local enum stand in it without a node around them
  abbrev pub enum_scopes : Judging (List Frame)
  enum_scopes =
      if is_written_type part then give left
      else enum_body left
    where
      enum_body : List Frame → Judging (List Frame)
      enum_body [] =
          with_body u around (own_name u at.given (names u at.trees)) false (first_class (written_in vs)) at.trees
      enum_body (f ∷ more) = give (f ∷ more)

  abbrev pub anonymous_scopes : Judging (List Frame)
  anonymous_scopes = if part == BODY then with_body u around left true (created at.given) own else give left

  -- the variable of `for (T x : e)` isn't in scope in e (JLS 14.14.2)
  abbrev pub for_scopes : List Frame
  for_scopes = if first_word u at.trees == COLON then [] else or_these left (variable u at.given (dims at.trees))

  -- the parameters of a lambda expression are in scope in its body
  abbrev pub lambda_scopes : List Frame
  lambda_scopes =
      if is_written_type part || part == LAMBDA_PARAMETER then left
      else locals u Unknown (names u at.trees) ++ parameters u (params_in vs)

  -- the resources of `try` are in scope in its block, the first, and not behind it (JLS 14.20.3)
  abbrev pub statement_scopes : List Frame
  statement_scopes =
      if part == CATCH then []
      else if part == BLOCK then (if count_of BLOCK from == count_of BLOCK at.trees then left else [])
      else left

  unfoldable pub scope_by : Kind → Judging (List Frame)
  scope_by kind.Declarator = give (declared_local u at.given (dims at.trees) (first_name u at.trees))
  scope_by kind.ForRest = give for_scopes
  scope_by kind.Resource = give (resource u (written_in vs) (names u at.trees))
  scope_by kind.Catch = give (if part == BLOCK then locals u (caught (written_in vs)) (names u at.trees) else [])
  scope_by kind.Method = give (if part == BLOCK then parameters u (params_in vs) else [])
  scope_by kind.Lambda = give lambda_scopes
  scope_by kind.TypeParams = give (type_params u at.trees)
  scope_by kind.Statement = give statement_scopes
  scope_by kind.Class = class_scopes
  scope_by kind.Interface = class_scopes
  scope_by kind.AnnType = class_scopes
  scope_by kind.Enum = enum_scopes
  scope_by kind.NewRest = anonymous_scopes
  scope_by kind.Const = anonymous_scopes
  scope_by other = give left

  abbrev pub scope_or_left : Option Kind → Judging (List Frame)
  scope_or_left None = give left
  scope_or_left (Some k) = scope_by k

unfoldable pub scope_for : Around → Site Given → Numbered → List Value → List Frame → List Frame → Judging (List Frame)
scope_for u at (node n k own rest) vs around left =
    scope_or_left u at k own (node n k own rest) vs around left (kind_in at.kind)
scope_for u at from vs around left = give left

-- ---- what a node leaves

module _ (u : Around) (at : Site Given) (vs : List Value) (left : List Frame) where
  -- `left` is what its parts leave; locals of a `switch` are in scope in the groups behind, its local classes aren't
  -- (JLS 6.3, 14.11)
  unfoldable pub left_by : Kind → List Frame
  left_by kind.Declarator = declared_local u at.given (dims at.trees) (first_name u at.trees)
  left_by kind.ForRest = or_these left (variable u at.given (dims at.trees))
  left_by kind.Resource = resource u (written_in vs) (names u at.trees)
  left_by kind.Local = left
  left_by kind.LocalRest = left
  left_by kind.BlockPart = left
  left_by kind.ForHead = left
  left_by kind.ForVar = left
  left_by kind.TypeParams = left
  left_by kind.Group = filter is_local left
  left_by kind.Class = own_name u at.given (names u at.trees)
  left_by kind.Interface = own_name u at.given (names u at.trees)
  left_by kind.Enum = own_name u at.given (names u at.trees)
  left_by kind.AnnType = own_name u at.given (names u at.trees)
  left_by other = []

  abbrev pub left_or_none : Option Kind → List Frame
  left_or_none None = []
  left_or_none (Some k) = left_by k

unfoldable pub left_in_scope : Around → Site Given → List Value → List Frame → List Frame
left_in_scope u at vs left = left_or_none u at vs left (kind_in at.kind)
