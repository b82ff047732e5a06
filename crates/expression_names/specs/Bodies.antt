-- The class around a place, `this` and `super` (JLS 8.8.7.1, 15.8.3, 15.8.4, 15.11.2).
use Rattle.std.specs.Prelude.{ℕ, List, [], ◌∷◌, Option, None, Some, if◌then◌else◌}
use Rattle.dialogue.specs.Dialogue.{done}
use Rattle.jtypes.specs.World.{Rule}
use Rattle.jtypes.specs.declared.types.JType.{JType}
use Rattle.jtypes.specs.declared.types.JType.TheVariants.{Unknown, Class as ClassType}
use Rattle.j_overload.specs.declared.argument.ArgType.{ArgType}
use Rattle.j_names.specs.Calls.{superclass_of, super_of}
use Rattle.j_names.specs.Names.{or_else, outward}
use Rattle.j_names.specs.declared.context.EnclosingClass.{EnclosingClass}
use Rattle.j_names.specs.declared.context.Frame.{Frame}
use Rattle.j_names.specs.declared.context.Frame.TheVariants.{Class as ClassFrame, LocalBody}
use Rattle.j_names.specs.declared.context.UnitContext.{UnitContext}
use Rattle.judging.specs.Judging.{Judging, give, looking}
use Rattle.expression_names.specs.Calls.{constructing}
use Rattle.expression_names.specs.declared.bodies.Whose.{Whose}
use Rattle.expression_names.specs.declared.bodies.Whose.TheVariants.{Named, Anonymous, Local, Nobody}
use Rattle.expression_names.specs.declared.denoted.Denoted.{Denoted}
use Rattle.expression_names.specs.declared.denoted.Denoted.TheVariants.{Class}

-- Whose body a place stands in

-- whose body a scope is, if it is one
abbrev pub body_of : Frame → Option Whose
body_of (ClassFrame name) = Some (Named name)
body_of (LocalBody is_anonymous supertype fields methods) =
    Some (if is_anonymous then Anonymous supertype else Local)
body_of frame = None

-- the first body among scopes that go outward, or else that of a class around the unit
abbrev pub first_body : Whose → List Frame → Whose
first_body around [] = around
first_body around (frame ∷ outer) = or_else (first_body around outer) (body_of frame)

abbrev pub body_around : List EnclosingClass → Whose
body_around [] = Nobody
body_around (e ∷ outer) = Named e.name

unfoldable pub whose_body : UnitContext → List Frame → Whose
whose_body cx frames = first_body (body_around (outward cx.enclosing)) (outward frames)

-- Types

abbrev pub class_type : Option (List ℕ) → JType
class_type None = Unknown
class_type (Some name) = ClassType name

-- `this` in an anonymous class is of its named supertype, where it has one
abbrev pub this_type : Whose → JType
this_type (Named name) = ClassType name
this_type (Anonymous supertype) = class_type supertype
this_type whose = Unknown

-- `super` is known in classes that are declared by a qualified name alone
abbrev pub superclass : Whose → Rule (Option (List ℕ))
superclass (Named name) = superclass_of name
superclass whose = done None

unfoldable pub super_type : Whose → Judging JType
super_type whose = looking (superclass whose) (λ t. give (class_type t))

-- `T.this`
abbrev pub qualified_this : Denoted → JType
qualified_this (Class name) = ClassType name
qualified_this before = Unknown

-- `T.super`: T where it is an interface, else its superclass
abbrev pub class_of_super : Denoted → Rule (Option (List ℕ))
class_of_super (Class name) = super_of name
class_of_super before = done None

unfoldable pub qualified_super : Denoted → Judging JType
qualified_super before = looking (class_of_super before) (λ t. give (class_type t))

-- Explicit calls of constructors: `this(..)` and `super(..)`

abbrev pub own_class : Whose → Option (List ℕ)
own_class (Named name) = Some name
own_class whose = None

unfoldable pub this_call : UnitContext → Whose → ℕ → List ArgType → Judging (Unit {0})
this_call cx whose leaf args = constructing cx (own_class whose) leaf args

unfoldable pub super_call : UnitContext → Whose → ℕ → List ArgType → Judging (Unit {0})
super_call cx whose leaf args = looking (superclass whose) (λ t. constructing cx t leaf args)
