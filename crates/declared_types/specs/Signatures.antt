-- The fields and methods of a declared type, erased (JLS 4.6, 8.3, 8.4), by a world of headers.
use Rattle.std.specs.Prelude.{ℕ, zero, suc, nat_le, Bool, true, false, not, ◌&&◌, List, [], ◌∷◌, ◌++◌}
use Rattle.std.specs.Prelude.{if◌then◌else◌}
use Rattle.std.specs.List.{list_any}
use Rattle.dialogue.specs.Dialogue.{done, bind, each}
use Rattle.jtypes.specs.World.{Rule, name_eq}
use Rattle.jtypes.specs.Arrays.{ArrayOf}
use Rattle.jtypes.specs.declared.signatures.ClassKind.{ClassKind}
use Rattle.jtypes.specs.declared.signatures.ClassKind.TheVariants.{Class, Interface, Enum, Annotation}
use Rattle.jtypes.specs.declared.signatures.FieldSig.{FieldSig}
use Rattle.jtypes.specs.declared.signatures.MethodSig.{MethodSig}
use Rattle.jtypes.specs.declared.symbol.Symbol.{Symbol}
use Rattle.jtypes.specs.declared.symbol.Symbol.TheVariants.{Kind, TypeVar}
use Rattle.jtypes.specs.declared.types.JType.{JType}
use Rattle.jtypes.specs.declared.types.JType.TheVariants.{Prim as PrimType, Class as ClassType, Void as VoidType}
use Rattle.jtypes.specs.declared.types.JType.TheVariants.{Unknown as UnknownType}
use Rattle.j_names.specs.Calls.{constructor_name}
use Rattle.declared_types.specs.declared.body.Body.{Body}
use Rattle.declared_types.specs.declared.body.Scope.{Scope}
use Rattle.declared_types.specs.declared.written.Base.{Base}
use Rattle.declared_types.specs.declared.written.Base.TheVariants.{Prim, Named, Itself, Void}
use Rattle.declared_types.specs.declared.written.DeclaredType.{DeclaredType}
use Rattle.declared_types.specs.declared.written.Written.{Written}
use Rattle.declared_types.specs.declared.written.WrittenField.{WrittenField}
use Rattle.declared_types.specs.declared.written.WrittenMethod.{WrittenMethod}
use Rattle.declared_types.specs.Erasure.{scope_of, context_inside, body_of, variable_erased}
use Rattle.declared_types.specs.ImplicitNames.{values_name, value_of_name, string_name}
use Rattle.declared_types.specs.Resolving.{name_meant}

-- ---- types

abbrev pub arrays_of : ℕ → JType → JType
arrays_of zero t = t
arrays_of (suc n) t = ArrayOf (arrays_of n t)

-- an array type has at most 255 dimensions (JVMS 4.3.2); one with more isn't known
unfoldable pub most_dims : ℕ
most_dims = 255

unfoldable pub with_dims : ℕ → JType → JType
with_dims dims t = if nat_le dims most_dims then arrays_of dims t else UnknownType

-- a field or result whose type is a type variable, or an array of one, isn't known
abbrev pub plain_type : ℕ → Symbol → JType
plain_type dims (Kind name) = with_dims dims (ClassType name)
plain_type dims (TypeVar name) = UnknownType
plain_type dims s = with_dims dims UnknownType

-- a parameter whose type is one has its erasure
abbrev pub param_type : List Scope → ℕ → Symbol → Rule JType
param_type scopes dims (TypeVar name) = bind (variable_erased scopes name) (λ t. done (with_dims dims t))
param_type scopes dims s = done (plain_type dims s)

-- a type in the scope of a member, by the name of the type that declares the member and by what a name means
abbrev pub type_by_base : List ℕ → Scope → (Symbol → Rule JType) → ℕ → Base → Rule JType
type_by_base owner own by_meaning dims (Prim p) = done (with_dims dims (PrimType p))
type_by_base owner own by_meaning dims (Named part parts) = bind (name_meant own.cx own.frames part parts) by_meaning
type_by_base owner own by_meaning dims Itself = done (with_dims dims (ClassType owner))
type_by_base owner own by_meaning dims Void = done VoidType

unfoldable pub plain_written : List ℕ → Scope → Written → Rule JType
plain_written owner own w = type_by_base owner own (λ s. done (plain_type w.dims s)) w.dims w.base

unfoldable pub param_written : Body → Scope → Written → Rule JType
param_written b own w = type_by_base b.name own (param_type (own ∷ b.outer) w.dims) w.dims w.base

-- ---- declared members

abbrev pub field_with : List ℕ → WrittenField → JType → FieldSig
field_with owner f t =
    record { owner = owner; name = f.name; ty = t; is_static = f.is_static; is_private = f.is_private }

abbrev pub field_in : List ℕ → Scope → WrittenField → Rule FieldSig
field_in owner own f = bind (plain_written owner own f.ty) (λ t. done (field_with owner f t))

abbrev pub method_with : List ℕ → WrittenMethod → List JType → JType → MethodSig
method_with owner m params result = record {
  owner = owner;
  name = m.name;
  params = params;
  result = result;
  varargs = m.varargs;
  is_static = m.is_static;
  is_private = m.is_private;
}

-- a method in the scope of its own type parameters
abbrev pub method_in : Body → Scope → WrittenMethod → Rule MethodSig
method_in b own m =
    bind (each (param_written b own) m.params) (λ params.
    bind (plain_written b.name own m.result) (λ result.
    done (method_with b.name m params result)))

abbrev pub method_of : Body → WrittenMethod → Rule MethodSig
method_of b m = method_in b (scope_of m.type_params b.cx) m

-- ---- members that a type has without declaring them

abbrev pub implicit_method : DeclaredType → List ℕ → List JType → JType → Bool → MethodSig
implicit_method d name params result is_static = record {
  owner = d.name;
  name = name;
  params = params;
  result = result;
  varargs = false;
  is_static = is_static;
  is_private = false;
}

-- the methods of an enum (JLS 8.9.3)
abbrev pub enum_methods : DeclaredType → ClassKind → List MethodSig
enum_methods d Enum =
    implicit_method d values_name [] (ArrayOf (ClassType d.name)) true
    ∷ implicit_method d value_of_name (ClassType string_name ∷ []) (ClassType d.name) true
    ∷ []
enum_methods d kind = []

-- a class or enum without constructors has one without parameters (JLS 8.8.9, 8.9.2)
abbrev pub has_constructors : ClassKind → Bool
has_constructors Class = true
has_constructors Enum = true
has_constructors Interface = false
has_constructors Annotation = false

abbrev pub declares_constructor : DeclaredType → Bool
declares_constructor d = list_any (λ m. name_eq m.name constructor_name) d.methods

abbrev pub default_constructor : DeclaredType → List MethodSig
default_constructor d =
    if has_constructors d.kind && not (declares_constructor d)
    then implicit_method d constructor_name [] VoidType false ∷ []
    else []

-- ---- all members

unfoldable pub fields_of : DeclaredType → Rule (List FieldSig)
fields_of d = each (field_in d.name (scope_of [] (context_inside d))) d.fields

-- the declared methods and constructors in the order of the text, and behind them those that aren't declared
unfoldable pub methods_of : DeclaredType → Rule (List MethodSig)
methods_of d =
    bind (each (method_of (body_of d)) d.methods) (λ declared.
    done (declared ++ enum_methods d d.kind ++ default_constructor d))
