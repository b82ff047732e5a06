-- What a name behind a dot means (JLS 6.5.5.2, 6.5.6.2, 15.11).
use Rattle.std.specs.Prelude.{ℕ, List, [], ◌∷◌, Option, codes, if◌then◌else◌}
use Rattle.dialogue.specs.Dialogue.{done, bind, first_found}
use Rattle.jtypes.specs.World.{Rule, name_eq}
use Rattle.jtypes.specs.Arrays.{ArrayOf}
use Rattle.jtypes.specs.declared.symbol.Symbol.{Symbol}
use Rattle.jtypes.specs.declared.symbol.Symbol.TheVariants.{Package, Kind, Local, Unknown}
use Rattle.jtypes.specs.declared.types.JPrim.TheVariants.{Int}
use Rattle.jtypes.specs.declared.types.JType.{JType}
use Rattle.jtypes.specs.declared.types.JType.TheVariants.{Prim, Class}
use Rattle.j_names.specs.Members.{joined, type_at, field_of, member_type_of}
use Rattle.j_names.specs.Names.{or_else}

-- behind a package: the type of that name where it is there, else a package
unfoldable pub behind_package : Option (List ℕ) → List ℕ → List ℕ → Rule Symbol
behind_package top p n = bind (type_at top (joined p n)) (λ s. done (or_else (Package (joined p n)) s))

-- behind a type in an expression: a field by the walk, else a member type, else Unknown
unfoldable pub behind_type : Option (List ℕ) → List ℕ → List ℕ → Rule Symbol
behind_type top t n =
    bind (first_found (field_of top n t ∷ member_type_of top n t ∷ [])) (λ s. done (or_else Unknown s))

-- length is the one field of an array that is known (JLS 10.7); it counts as a local of type int
unfoldable pub length_name : List ℕ
length_name = codes "length"

abbrev pub array_field : List ℕ → Symbol
array_field n = if name_eq n length_name then Local (Prim Int) else Unknown

-- behind an expression of a type: a field of the type
unfoldable pub field_behind : Option (List ℕ) → JType → List ℕ → Rule Symbol
field_behind top (Class t) n = bind (field_of top n t) (λ s. done (or_else Unknown s))
field_behind top (ArrayOf element) n = done (array_field n)
field_behind top ty n = done Unknown

-- in a type position only types and packages count
unfoldable pub type_behind : Option (List ℕ) → Symbol → List ℕ → Rule Symbol
type_behind top (Package p) n = behind_package top p n
type_behind top (Kind t) n = bind (member_type_of top n t) (λ s. done (or_else Unknown s))
type_behind top s n = done Unknown
