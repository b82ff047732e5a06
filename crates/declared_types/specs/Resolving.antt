-- What a written type names (JLS 6.5.4, 6.5.5), by a world of headers.
use Rattle.std.specs.Prelude.{List, [], ◌∷◌, map}
use Rattle.dialogue.specs.Dialogue.{bind, in_turn}
use Rattle.jtypes.specs.World.{Rule}
use Rattle.jtypes.specs.declared.symbol.Symbol.{Symbol}
use Rattle.j_names.specs.Names.{top_around, type_named, type_or_package}
use Rattle.j_names.specs.Dots.{type_behind}
use Rattle.j_names.specs.declared.context.Frame.{Frame}
use Rattle.j_names.specs.declared.context.Frame.TheVariants.{TypeParam}
use Rattle.j_names.specs.declared.context.UnitContext.{UnitContext}
use Rattle.declared_types.specs.declared.written.NamePart.{NamePart}
use Rattle.declared_types.specs.declared.written.WrittenParam.{WrittenParam}

-- type parameters as scopes
abbrev pub as_frames : List WrittenParam → List Frame
as_frames params = map (λ p. TypeParam p.name) params

-- Each part of a name behind what the part before it means. A first part that isn't alone may be a package.
abbrev pub part_behind : UnitContext → Symbol → NamePart → Rule Symbol
part_behind cx scope part = type_behind (top_around cx) scope part.name

unfoldable pub name_meant : UnitContext → List Frame → NamePart → List NamePart → Rule Symbol
name_meant cx frames part [] = type_named cx frames part.name
name_meant cx frames part (next ∷ parts) =
    bind (type_or_package cx frames part.name) (λ scope. in_turn (part_behind cx) scope (next ∷ parts))
