-- Names in a type position (JLS 6.5.4, 6.5.5). What each of their leaves means is noted.
use Rattle.std.specs.Prelude.{ℕ, List, [], ◌∷◌}
use Rattle.jtypes.specs.declared.symbol.Symbol.{Symbol}
use Rattle.jtypes.specs.declared.symbol.Symbol.TheVariants.{Unknown}
use Rattle.j_names.specs.declared.context.Frame.{Frame}
use Rattle.j_names.specs.declared.context.UnitContext.{UnitContext}
use Rattle.j_names.specs.Dots.{type_behind}
use Rattle.j_names.specs.Names.{top_around, type_named, type_or_package}
use Rattle.judging.specs.Judging.{Judging, give, noting, and_then, looking}
use Rattle.judging.specs.declared.log.Note.TheVariants as note
use Rattle.type_positions.specs.declared.names.NamedLeaf.{NamedLeaf}

-- the meaning of a leaf is noted and given
abbrev pub noted : ℕ → Symbol → Judging Symbol
noted leaf s = noting (note.Symbol leaf s ∷ []) s

-- a part behind a dot: only types and packages count (JLS 6.5.5.2)
unfoldable pub part_behind : UnitContext → Symbol → NamedLeaf → Judging Symbol
part_behind cx s p = looking (type_behind (top_around cx) s p.name) (noted p.leaf)

-- the parts behind what is known, each behind the one before it; what the last one means
unfoldable pub parts_behind : UnitContext → Symbol → List NamedLeaf → Judging Symbol
parts_behind cx s [] = give s
parts_behind cx s (p ∷ ps) = and_then (part_behind cx s p) (λ t. parts_behind cx t ps)

-- a lone name is a type (JLS 6.5.5.1)
unfoldable pub lone_name : UnitContext → List Frame → NamedLeaf → Judging Symbol
lone_name cx frames p = looking (type_named cx frames p.name) (noted p.leaf)

-- the first part of a longer name is a type or a package (JLS 6.5.4.1)
unfoldable pub first_part : UnitContext → List Frame → NamedLeaf → Judging Symbol
first_part cx frames p = looking (type_or_package cx frames p.name) (noted p.leaf)

-- a name of one part or more in a type position
unfoldable pub type_name : UnitContext → List Frame → List NamedLeaf → Judging Symbol
type_name cx frames [] = give Unknown
type_name cx frames (p ∷ []) = lone_name cx frames p
type_name cx frames (p ∷ q ∷ ps) = and_then (first_part cx frames p) (λ s. parts_behind cx s (q ∷ ps))
