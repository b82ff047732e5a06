-- The supertypes of a declared type (JLS 8.1.4, 8.1.5, 8.9, 9.1.3, 9.6), by a world of headers as they are written.
use Rattle.std.specs.Prelude.{ℕ, zero, List, [], ◌∷◌, ◌++◌, Option, None, Some, if◌then◌else◌}
use Rattle.dialogue.specs.Dialogue.{done, bind, each}
use Rattle.jtypes.specs.World.{Rule, name_eq}
use Rattle.jtypes.specs.declared.signatures.ClassKind.{ClassKind}
use Rattle.jtypes.specs.declared.signatures.ClassKind.TheVariants.{Class, Interface, Enum, Annotation}
use Rattle.jtypes.specs.declared.signatures.Header.{Header}
use Rattle.jtypes.specs.declared.symbol.Symbol.{Symbol}
use Rattle.jtypes.specs.declared.symbol.Symbol.TheVariants.{Kind}
use Rattle.jtypes.specs.Subtype.{object_name}
use Rattle.j_names.specs.declared.context.Frame.{Frame}
use Rattle.j_names.specs.declared.context.UnitContext.{UnitContext}
use Rattle.declared_types.specs.declared.written.Base.{Base}
use Rattle.declared_types.specs.declared.written.Base.TheVariants.{Named}
use Rattle.declared_types.specs.declared.written.DeclaredType.{DeclaredType}
use Rattle.declared_types.specs.declared.written.Written.{Written}
use Rattle.declared_types.specs.ImplicitNames.{enum_name, annotation_name}
use Rattle.declared_types.specs.Resolving.{as_frames, name_meant}

-- ---- the class that a written type names, where it names one

abbrev pub class_of : Symbol → Option (List ℕ)
class_of (Kind name) = Some name
class_of s = None

abbrev pub class_by_base : UnitContext → List Frame → ℕ → Base → Rule (Option (List ℕ))
class_by_base cx frames zero (Named part parts) = bind (name_meant cx frames part parts) (λ s. done (class_of s))
class_by_base cx frames dims base = done None

abbrev pub class_written : UnitContext → List Frame → Written → Rule (Option (List ℕ))
class_written cx frames w = class_by_base cx frames w.dims w.base

-- ---- the superclass

-- Object where a class says nothing, and nothing where what it says is no class
abbrev pub extended : UnitContext → List Frame → Option Written → Rule (Option (List ℕ))
extended cx frames None = done (Some object_name)
extended cx frames (Some w) = class_written cx frames w

-- Object has no superclass, whatever it says
abbrev pub superclass : DeclaredType → List Frame → Rule (Option (List ℕ))
superclass d frames = if name_eq d.name object_name then done None else extended d.cx frames d.superclass

-- the first supertype; that of an annotation type is an interface
abbrev pub first_by_kind : DeclaredType → List Frame → ClassKind → Rule (Option (List ℕ))
first_by_kind d frames Class = superclass d frames
first_by_kind d frames Interface = done None
first_by_kind d frames Enum = done (Some enum_name)
first_by_kind d frames Annotation = done (Some annotation_name)

-- ---- all of them

-- those that are there
abbrev pub known : {A : Type 0} → List (Option A) → List A
known [] = []
known (None ∷ found) = known found
known (Some a ∷ found) = a ∷ known found

-- behind some classes those that a rule gives for each of a list
abbrev pub gathered : {A : Type 0} → (A → Rule (Option (List ℕ))) → List (List ℕ) → List A → Rule (List (List ℕ))
gathered f names xs = bind (each f xs) (λ found. done (names ++ known found))

-- the superclass, and then the superinterfaces in order; what doesn't name a class is left out
abbrev pub supertypes_in : DeclaredType → List Frame → Rule (List (List ℕ))
supertypes_in d frames =
    bind (first_by_kind d frames d.kind) (λ first.
    gathered (class_written d.cx frames) (known (first ∷ [])) d.interfaces)

unfoldable pub supertypes_of : DeclaredType → Rule (List (List ℕ))
supertypes_of d = supertypes_in d (as_frames d.type_params)

-- the header of a declared type with these supertypes
abbrev pub header_with : List (List ℕ) → DeclaredType → Header
header_with supertypes d =
    record { name = d.name; kind = d.kind; supertypes = supertypes; top = d.top; is_private = d.is_private }
