-- What names stand for in an expression (JLS 6.5.2, 6.5.6, 15.11).
use Rattle.std.specs.Prelude.{ℕ, List, [], ◌∷◌}
use Rattle.jtypes.specs.World.{Rule}
use Rattle.jtypes.specs.declared.symbol.Symbol.{Symbol}
use Rattle.jtypes.specs.declared.symbol.Symbol.TheVariants as symbol
use Rattle.jtypes.specs.declared.types.JType.{JType}
use Rattle.jtypes.specs.declared.types.JType.TheVariants.{Unknown}
use Rattle.j_names.specs.Dots.{behind_package, behind_type, field_behind}
use Rattle.j_names.specs.Names.{meaning_of, top_around}
use Rattle.j_names.specs.declared.context.Frame.{Frame}
use Rattle.j_names.specs.declared.context.UnitContext.{UnitContext}
use Rattle.judging.specs.Judging.{Judging, noting, looking}
use Rattle.judging.specs.declared.log.Note.TheVariants.{Symbol as NoteSymbol}
use Rattle.expression_names.specs.declared.denoted.Denoted.{Denoted}
use Rattle.expression_names.specs.declared.denoted.Denoted.TheVariants.{Package, Class, Expr}

-- what a name of a meaning stands for; it has no type where it is no variable
abbrev pub denotes : Symbol → Denoted
denotes (symbol.Package name) = Package name
denotes (symbol.Kind name) = Class name
denotes (symbol.Field field) = Expr field.ty
denotes (symbol.Local ty) = Expr ty
denotes s = Expr Unknown

-- the type of an expression; a package or a class has none
abbrev pub type_of : Denoted → JType
type_of (Expr ty) = ty
type_of d = Unknown

-- the meaning is noted at the leaf of the name
abbrev pub named : ℕ → Symbol → Judging Denoted
named leaf s = noting (NoteSymbol leaf s ∷ []) (denotes s)

-- a simple name: a variable, else a type, else a package
unfoldable pub simple_name : UnitContext → List Frame → ℕ → List ℕ → Judging Denoted
simple_name cx frames leaf n = looking (meaning_of cx frames n) (named leaf)

-- behind a package a type or a package, behind a class a field or a member type, behind an expression a field of its
-- type
abbrev pub meaning_behind : UnitContext → Denoted → List ℕ → Rule Symbol
meaning_behind cx (Package p) n = behind_package (top_around cx) p n
meaning_behind cx (Class t) n = behind_type (top_around cx) t n
meaning_behind cx (Expr ty) n = field_behind (top_around cx) ty n

-- a name behind a dot
unfoldable pub name_behind : UnitContext → Denoted → ℕ → List ℕ → Judging Denoted
name_behind cx before leaf n = looking (meaning_behind cx before n) (named leaf)
