-- What the names of declared fields, enum constants, parameters, methods and constructors mean (JLS 6.1, 8.3, 8.4, 8.8,
-- 8.9.1). A class that is declared by a qualified name has them in the world; a local or anonymous class (None) has no
-- such name.
use Rattle.std.specs.Prelude.{ℕ, List, [], ◌∷◌, Option, None, Some, Bool, ◌&&◌, ◌||◌, filter, map, length, nat_eq}
use Rattle.std.specs.List.{zip, list_all}
use Rattle.dialogue.specs.Dialogue.{done, ask}
use Rattle.jtypes.specs.World.{Rule, first}
use Rattle.jtypes.specs.Subtype.{type_eq}
use Rattle.jtypes.specs.declared.ask.Ask.TheVariants.{Field as AskField, Methods as AskMethods}
use Rattle.jtypes.specs.declared.signatures.MethodSig.{MethodSig}
use Rattle.jtypes.specs.declared.symbol.Symbol.{Symbol}
use Rattle.jtypes.specs.declared.symbol.Symbol.TheVariants.{Field, Method, Local, Unknown}
use Rattle.jtypes.specs.declared.types.JType.{JType}
use Rattle.j_names.specs.Calls.{constructor_name}
use Rattle.judging.specs.Judging.{Judging, noting, looking}
use Rattle.judging.specs.declared.log.Note.{Note}
use Rattle.judging.specs.declared.log.Note.TheVariants as note
use Rattle.declared_names.specs.declared.parameter.Parameter.{Parameter}

-- what is found is a symbol; what isn't is Unknown
abbrev pub or_unknown : {A : Type 0} → (A → Symbol) → Option A → Symbol
or_unknown as_symbol None = Unknown
or_unknown as_symbol (Some a) = as_symbol a

-- the meaning of a leaf is noted
abbrev pub noted : ℕ → Symbol → Judging (Unit {0})
noted leaf s = noting (note.Symbol leaf s ∷ []) (record {})

-- Fields and enum constants

-- the field that a class declares by a name
abbrev pub field_there : List ℕ → List ℕ → Rule Symbol
field_there owner n = ask (AskField owner n) (λ field. done (or_unknown Field field))

-- a field of a local or anonymous class counts as a local of its type
abbrev pub field_meant : Option (List ℕ) → List ℕ → JType → Rule Symbol
field_meant None n ty = done (Local ty)
field_meant (Some owner) n ty = field_there owner n

unfoldable pub declared_field : Option (List ℕ) → ℕ → List ℕ → JType → Judging (Unit {0})
declared_field class leaf n ty = looking (field_meant class n ty) (noted leaf)

-- an enum constant is a field (JLS 8.9.3)
abbrev pub constant_meant : Option (List ℕ) → List ℕ → Rule Symbol
constant_meant None n = done Unknown
constant_meant (Some owner) n = field_there owner n

unfoldable pub declared_constant : Option (List ℕ) → ℕ → List ℕ → Judging (Unit {0})
declared_constant class leaf n = looking (constant_meant class n) (noted leaf)

-- Parameters

-- they are locals of their types (JLS 8.4.1)
abbrev pub parameter_notes : List Parameter → List Note
parameter_notes ps = map (λ p. note.Symbol p.leaf (Local p.ty)) ps

-- Methods and constructors

-- the types are the same, but for a type variable or an array of one, whose erasure isn't known here (JLS 4.6)
abbrev pub has_type : Parameter → JType → Bool
has_type p ty = p.is_variable || type_eq p.ty ty

-- as many parameters, of these types in order (JLS 8.4.2)
abbrev pub has_parameters : List Parameter → MethodSig → Bool
has_parameters ps m = nat_eq (length ps) (length m.params) && list_all (λ p. has_type p.0 p.1) (zip ps m.params)

-- the first method with these parameters that a class declares by a name
abbrev pub method_there : List ℕ → List ℕ → List Parameter → Rule Symbol
method_there owner n ps =
    ask (AskMethods owner n) (λ methods. done (or_unknown Method (first (filter (has_parameters ps) methods))))

-- a method of a local or anonymous class isn't known
abbrev pub method_meant : Option (List ℕ) → List ℕ → List Parameter → Rule Symbol
method_meant None n ps = done Unknown
method_meant (Some owner) n ps = method_there owner n ps

unfoldable pub declared_method : Option (List ℕ) → ℕ → List ℕ → List Parameter → Judging (Unit {0})
declared_method class leaf n ps = looking (method_meant class n ps) (noted leaf)

-- constructors have one name in a world, which isn't that of their class
unfoldable pub declared_constructor : Option (List ℕ) → ℕ → List Parameter → Judging (Unit {0})
declared_constructor class leaf ps = looking (method_meant class constructor_name ps) (noted leaf)
