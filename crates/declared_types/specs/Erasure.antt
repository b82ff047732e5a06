-- The erasure of a type variable (JLS 4.6): that of its first bound.
use Rattle.std.specs.Prelude.{ℕ, zero, suc, ◌+◌, List, [], ◌∷◌, ◌++◌, Option, None, Some, is_some, filter, map}
use Rattle.std.specs.Prelude.{reverse, take, length, if◌then◌else◌}
use Rattle.std.specs.List.{enumerate_from}
use Rattle.dialogue.specs.Dialogue.{done, bind}
use Rattle.jtypes.specs.World.{Rule, name_eq, first}
use Rattle.jtypes.specs.declared.symbol.Symbol.{Symbol}
use Rattle.jtypes.specs.declared.symbol.Symbol.TheVariants.{Kind, TypeVar, Unknown}
use Rattle.jtypes.specs.declared.types.JType.{JType}
use Rattle.jtypes.specs.declared.types.JType.TheVariants.{Class as ClassType, Unknown as UnknownType}
use Rattle.jtypes.specs.Subtype.{object_name}
use Rattle.j_names.specs.declared.context.EnclosingClass.{EnclosingClass}
use Rattle.j_names.specs.declared.context.UnitContext.{UnitContext}
use Rattle.declared_types.specs.declared.body.Body.{Body}
use Rattle.declared_types.specs.declared.erased.Erased.{Erased}
use Rattle.declared_types.specs.declared.erased.Erased.TheVariants.{To, Next}
use Rattle.declared_types.specs.declared.body.Scope.{Scope}
use Rattle.declared_types.specs.declared.written.Base.{Base}
use Rattle.declared_types.specs.declared.written.Base.TheVariants.{Named}
use Rattle.declared_types.specs.declared.written.DeclaredType.{DeclaredType}
use Rattle.declared_types.specs.declared.written.ScopeParams.{ScopeParams}
use Rattle.declared_types.specs.declared.written.Written.{Written}
use Rattle.declared_types.specs.declared.written.WrittenParam.{WrittenParam}
use Rattle.declared_types.specs.Resolving.{as_frames, name_meant}

-- ---- the scopes around the signature of a member (JLS 6.3, 8.1.2, 8.4.4)

abbrev pub with_enclosing : UnitContext → List EnclosingClass → UnitContext
with_enclosing cx enclosing = record { «package» = cx.«package»; imports = cx.imports; enclosing = enclosing }

abbrev pub as_enclosing : DeclaredType → EnclosingClass
as_enclosing d = record { name = d.name; type_params = map (λ p. p.name) d.type_params }

-- where the members of a declared type stand
unfoldable pub context_inside : DeclaredType → UnitContext
context_inside d = with_enclosing d.cx (d.cx.enclosing ++ as_enclosing d ∷ [])

-- type parameters, and the place in which their bounds stand
abbrev pub scope_of : List WrittenParam → UnitContext → Scope
scope_of params cx = record { params = params; frames = as_frames params; cx = cx }

-- those of a type around, by its place among the types around
abbrev pub scope_around : UnitContext → ℕ × ScopeParams → Scope
scope_around cx s = scope_of s.1.params (with_enclosing cx (take s.0 cx.enclosing))

-- those of a declared type and of the types around it, outward
abbrev pub scopes_outward : DeclaredType → List Scope
scopes_outward d = scope_of d.type_params d.cx ∷ reverse (map (scope_around d.cx) (enumerate_from 0 d.around))

-- the body of a declared type (JLS 8.1.6), as its members have it around them
unfoldable pub body_of : DeclaredType → Body
body_of d = record {
  name = d.name;
  cx = context_inside d;
  outer = scopes_outward d;
}

-- the parameter of a name in a scope, and the scopes from the first on that has one
abbrev pub param_in : List ℕ → Scope → Option WrittenParam
param_in name s = first (filter (λ p. name_eq p.name name) s.params)

abbrev pub from_scope : List ℕ → List Scope → List Scope
from_scope name [] = []
from_scope name (s ∷ ss) = if is_some (param_in name s) then s ∷ ss else from_scope name ss

-- ---- bounds

abbrev pub bound_of : Option WrittenParam → Option Written
bound_of None = None
bound_of (Some p) = p.bound

-- Object without a bound; one that is no name alone isn't known
abbrev pub meaning_by_base : Scope → ℕ → Base → Rule Symbol
meaning_by_base s zero (Named part parts) = name_meant s.cx s.frames part parts
meaning_by_base s dims base = done Unknown

abbrev pub bound_meaning : Scope → Option Written → Rule Symbol
bound_meaning s None = done (Kind object_name)
bound_meaning s (Some w) = meaning_by_base s w.dims w.base

-- ---- the erasure

-- a type, or that of a further variable
abbrev pub as_erased : Symbol → Erased
as_erased (Kind name) = To (ClassType name)
as_erased (TypeVar name) = Next name
as_erased s = To UnknownType

abbrev pub erased : (List ℕ → Rule JType) → Erased → Rule JType
erased variable (To t) = done t
erased variable (Next name) = variable name

abbrev pub erasure_in : (List Scope → List ℕ → Rule JType) → List ℕ → List Scope → Rule JType
erasure_in further name [] = done (ClassType object_name)
erasure_in further name (s ∷ ss) =
    bind (bound_meaning s (bound_of (param_in name s))) (λ m. erased (further (s ∷ ss)) (as_erased m))

-- through at most so many bounds; a circle of bounds runs out of them, and gives Object
unfoldable pub erasure : ℕ → List Scope → List ℕ → Rule JType
erasure zero ss name = done (ClassType object_name)
erasure (suc n) ss name = erasure_in (erasure n) name (from_scope name ss)

-- there are no more bounds than parameters
abbrev pub count_params : List Scope → ℕ
count_params [] = 0
count_params (s ∷ ss) = length s.params + count_params ss

unfoldable pub variable_erased : List Scope → List ℕ → Rule JType
variable_erased ss name = erasure (count_params ss) ss name
