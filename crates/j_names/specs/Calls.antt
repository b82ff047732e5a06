-- Which methods a call may mean, and which constructors a creation (JLS 15.9.3, 15.12.1, 8.8.7.1).
use Rattle.std.specs.Prelude.{ℕ, List, [], ◌∷◌, ◌++◌, Option, None, Some, Bool, true, false, ◌&&◌, not, filter, map}
use Rattle.std.specs.Prelude.{codes, if◌then◌else◌}
use Rattle.std.specs.List.{list_any}
use Rattle.dialogue.specs.Dialogue.{done, ask, bind, in_turn, first_found}
use Rattle.jtypes.specs.World.{Rule, name_eq, first}
use Rattle.jtypes.specs.Subtype.{object_name, type_eq}
use Rattle.jtypes.specs.Arrays.{ArrayOf}
use Rattle.jtypes.specs.declared.ask.Ask.TheVariants.{Class as AskClass, Methods as AskMethods}
use Rattle.jtypes.specs.declared.signatures.ClassKind.{ClassKind}
use Rattle.jtypes.specs.declared.signatures.ClassKind.TheVariants.{Class as AClass, Enum}
use Rattle.jtypes.specs.declared.signatures.Header.{Header}
use Rattle.jtypes.specs.declared.signatures.MethodSig.{MethodSig}
use Rattle.jtypes.specs.declared.types.JType.{JType}
use Rattle.jtypes.specs.declared.types.JType.TheVariants.{Class as ClassType}
use Rattle.j_names.specs.Walk.{is_in, is_interface}
use Rattle.j_names.specs.Members.{counts, methods_of, methods_inherited}
use Rattle.j_names.specs.Names.{where_so, or_else, top_around, outward, static_owners}
use Rattle.j_names.specs.declared.called.Called.{Called}
use Rattle.j_names.specs.declared.called.Called.TheVariants.{Methods, Unknown}
use Rattle.j_names.specs.declared.context.EnclosingClass.{EnclosingClass}
use Rattle.j_names.specs.declared.context.Frame.{Frame}
use Rattle.j_names.specs.declared.context.Frame.TheVariants.{Class as ClassFrame, Declared, Local as LocalFrame}
use Rattle.j_names.specs.declared.context.Frame.TheVariants.{LocalBody, TypeParam}
use Rattle.j_names.specs.declared.context.UnitContext.{UnitContext}

-- Calls with a receiver

-- the walk of the receiver's type, of Object for an array
unfoldable pub methods_behind : Option (List ℕ) → JType → List ℕ → Rule (List MethodSig)
methods_behind top (ClassType t) n = methods_of top n t
methods_behind top (ArrayOf element) n = methods_of top n object_name
methods_behind top ty n = done []

-- Calls without receiver

-- methods are found where there are some
abbrev pub some_of : List MethodSig → Option Called
some_of [] = None
some_of (m ∷ ms) = Some (Methods (m ∷ ms))

abbrev pub found_in : Rule (List MethodSig) → Rule (Option Called)
found_in walk = bind walk (λ ms. done (some_of ms))

abbrev pub inherited_call : Option (List ℕ) → List ℕ → Option (List ℕ) → Rule (Option Called)
inherited_call top n None = done None
inherited_call top n (Some supertype) = found_in (methods_inherited top n supertype)

-- a method that a local or anonymous class declares is found and Unknown
abbrev pub call_in_frame : Option (List ℕ) → List ℕ → Frame → Rule (Option Called)
call_in_frame top n (LocalFrame name ty) = done None
call_in_frame top n (TypeParam name) = done None
call_in_frame top n (ClassFrame name) = found_in (methods_of top n name)
call_in_frame top n (LocalBody is_anonymous supertype fields methods) =
    first_found (where_so (is_in methods n) Unknown ∷ inherited_call top n supertype ∷ [])
call_in_frame top n (Declared name) = done None

abbrev pub call_in_class : Option (List ℕ) → List ℕ → EnclosingClass → Rule (Option Called)
call_in_class top n e = found_in (methods_of top n e.name)

-- the static methods of the name in the walks of some classes, in order; all are asked
abbrev pub and_static : Option (List ℕ) → List ℕ → List MethodSig → List ℕ → Rule (List MethodSig)
and_static top n so_far owner = bind (methods_of top n owner) (λ ms. done (so_far ++ filter (λ m. m.is_static) ms))

abbrev pub static_methods : Option (List ℕ) → List ℕ → List (List ℕ) → Rule (List MethodSig)
static_methods top n owners = in_turn (and_static top n) [] owners

-- the first class frame whose walk has a method of the name; where there is none, the static methods of the name by all
-- single static imports of it and then by all static imports on demand
unfoldable pub call_meant : UnitContext → List Frame → List ℕ → Rule (Option Called)
call_meant cx frames n = first_found (
    first_found (map (call_in_frame (top_around cx) n) (outward frames))
    ∷ first_found (map (call_in_class (top_around cx) n) (outward cx.enclosing))
    ∷ found_in (static_methods (top_around cx) n (static_owners cx.imports n))
    ∷ [])

unfoldable pub called : UnitContext → List Frame → List ℕ → Rule Called
called cx frames n = bind (call_meant cx frames n) (λ o. done (or_else (Methods []) o))

-- Candidates (JLS 8.4.8, 15.12.2)

abbrev pub types_eq : List JType → List JType → Bool
types_eq [] [] = true
types_eq (t ∷ ts) (u ∷ us) = type_eq t u && types_eq ts us
types_eq ts us = false

-- one of another class with the same name and erased parameters hides a method behind it
abbrev pub hides : MethodSig → MethodSig → Bool
hides m n = not (name_eq m.owner n.owner) && name_eq m.name n.name && types_eq m.params n.params

abbrev pub is_hidden : List MethodSig → MethodSig → Bool
is_hidden earlier m = list_any (λ e. hides e m) earlier

-- those that no earlier one hides
abbrev pub not_hidden : List MethodSig → List MethodSig → List MethodSig
not_hidden earlier [] = []
not_hidden earlier (m ∷ ms) =
    if is_hidden earlier m then not_hidden (earlier ++ m ∷ []) ms else m ∷ not_hidden (earlier ++ m ∷ []) ms

unfoldable pub candidates : List MethodSig → List MethodSig
candidates methods = not_hidden [] methods

-- Creations

-- the name that constructors have in a world
unfoldable pub constructor_name : List ℕ
constructor_name = codes "<constructor>"

abbrev pub constructors_there : Option (List ℕ) → List ℕ → Option Header → Rule (List MethodSig)
constructors_there top t None = done []
constructors_there top t (Some header) =
    ask (AskMethods t constructor_name) (λ ms. done (filter (λ m. counts top header m.is_private) ms))

-- the class is visited alone, without a walk
unfoldable pub constructors_of : Option (List ℕ) → List ℕ → Rule (List MethodSig)
constructors_of top t = ask (AskClass t) (constructors_there top t)

-- Superclasses

abbrev pub is_class : ClassKind → Bool
is_class AClass = true
is_class Enum = true
is_class kind = false

-- a superclass is there, and neither an interface nor an annotation type
abbrev pub where_class : List ℕ → Option Header → Option (List ℕ)
where_class s None = None
where_class s (Some header) = if is_class header.kind then Some s else None

-- the first of a header's supertypes, which is asked for
abbrev pub where_asked : Option (List ℕ) → Rule (Option (List ℕ))
where_asked None = done None
where_asked (Some s) = ask (AskClass s) (λ header. done (where_class s header))

abbrev pub first_class : List (List ℕ) → Rule (Option (List ℕ))
first_class names = where_asked (first names)

abbrev pub superclass_there : Option Header → Rule (Option (List ℕ))
superclass_there None = done None
superclass_there (Some header) = first_class header.supertypes

-- for `super` and `super(..)`; None is Unknown and has no constructors
unfoldable pub superclass_of : List ℕ → Rule (Option (List ℕ))
superclass_of t = ask (AskClass t) superclass_there

abbrev pub super_there : List ℕ → Option Header → Rule (Option (List ℕ))
super_there t None = done None
super_there t (Some header) = if is_interface header.kind then done (Some t) else first_class header.supertypes

-- for `T.super`: T itself where it is an interface, else its superclass (JLS 15.11.2, 15.12.1)
unfoldable pub super_of : List ℕ → Rule (Option (List ℕ))
super_of t = ask (AskClass t) (super_there t)
