-- Names in package and import declarations (JLS 7.4, 7.5).
use Rattle.std.specs.Prelude.{ℕ, List, [], ◌∷◌, Bool, true, false, ◌&&◌}
use Rattle.jtypes.specs.World.{Rule}
use Rattle.jtypes.specs.declared.symbol.Symbol.{Symbol}
use Rattle.jtypes.specs.declared.symbol.Symbol.TheVariants.{Package, Kind, Unknown}
use Rattle.j_names.specs.declared.context.UnitContext.{UnitContext}
use Rattle.j_names.specs.Dots.{behind_type, type_behind}
use Rattle.j_names.specs.Members.{joined}
use Rattle.j_names.specs.Names.{top_around}
use Rattle.judging.specs.Judging.{Judging, give, and_then, looking}
use Rattle.judging.specs.declared.log.Note.{Note}
use Rattle.judging.specs.declared.log.Note.TheVariants as note
use Rattle.type_positions.specs.declared.names.ImportPart.{ImportPart}
use Rattle.type_positions.specs.declared.names.ImportPart.TheVariants.{Name, All}
use Rattle.type_positions.specs.declared.names.NamedLeaf.{NamedLeaf}
use Rattle.type_positions.specs.TypeNames.{noted}

-- in a package declaration each leaf is the package up to it (JLS 6.5.3, 7.4.1); nothing is looked up
abbrev pub package_notes : List ℕ → List NamedLeaf → List Note
package_notes outer [] = []
package_notes outer (p ∷ ps) =
    note.Symbol p.leaf (Package (joined outer p.name)) ∷ package_notes (joined outer p.name) ps

-- a name behind another in an import stands in a type position; the last of a single static import may be a field,
-- too (JLS 7.5.3)
abbrev pub import_behind : UnitContext → Bool → Symbol → List ℕ → Rule Symbol
import_behind cx true (Kind owner) n = behind_type (top_around cx) owner n
import_behind cx static_end s n = type_behind (top_around cx) s n

-- nothing is known behind `*`
unfoldable pub import_part : UnitContext → Bool → Symbol → ImportPart → Judging Symbol
import_part cx static_end s (Name p) = looking (import_behind cx static_end s p.name) (noted p.leaf)
import_part cx static_end s All = give Unknown

abbrev pub is_end : List ImportPart → Bool
is_end [] = true
is_end (p ∷ ps) = false

unfoldable pub import_parts : UnitContext → Bool → Symbol → List ImportPart → Judging Symbol
import_parts cx is_static s [] = give s
import_parts cx is_static s (p ∷ ps) =
    and_then (import_part cx (is_static && is_end ps) s p) (λ t. import_parts cx is_static t ps)

-- the first leaf of an import is a package of one part, which isn't looked up (JLS 7.5)
unfoldable pub imported : UnitContext → Bool → NamedLeaf → List ImportPart → Judging Symbol
imported cx is_static first parts =
    and_then (noted first.leaf (Package first.name)) (λ s. import_parts cx is_static s parts)
