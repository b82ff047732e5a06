-- What a written type means (JLS 4.2, 4.3, 10.1).
use Rattle.std.specs.Prelude.{ℕ, List, true, false, if◌then◌else◌}
use Rattle.jtypes.specs.declared.symbol.Symbol.{Symbol}
use Rattle.jtypes.specs.declared.symbol.Symbol.TheVariants.{Kind, TypeVar}
use Rattle.jtypes.specs.declared.types.JType.{JType}
use Rattle.jtypes.specs.declared.types.JType.TheVariants as ty
use Rattle.j_names.specs.declared.context.Frame.{Frame}
use Rattle.j_names.specs.declared.context.UnitContext.{UnitContext}
use Rattle.judging.specs.Judging.{Judging, give, and_then}
use Rattle.operator_types.specs.Arrays.{with_dims}
use Rattle.type_positions.specs.declared.written.MeantType.{MeantType}
use Rattle.type_positions.specs.declared.written.WrittenBase.{WrittenBase}
use Rattle.type_positions.specs.declared.written.WrittenBase.TheVariants as base
use Rattle.type_positions.specs.declared.written.WrittenType.{WrittenType}
use Rattle.type_positions.specs.TypeNames.{type_name}

abbrev pub known : JType → MeantType
known t = record { ty = t; is_variable = false }

-- a type variable, and an array of one, isn't known (JLS 4.4)
abbrev pub variable : MeantType
variable = record { ty = ty.Unknown; is_variable = true }

-- the type with so many dimensions that a name means
abbrev pub meant : ℕ → Symbol → MeantType
meant dims (Kind name) = known (with_dims dims (ty.Class name))
meant dims (TypeVar name) = variable
meant dims s = known (with_dims dims ty.Unknown)

abbrev pub type_by_base : UnitContext → List Frame → ℕ → WrittenBase → Judging MeantType
type_by_base cx frames dims (base.Prim p) = give (known (with_dims dims (ty.Prim p)))
type_by_base cx frames dims base.Void = give (known ty.Void)
type_by_base cx frames dims (base.Named names) = and_then (type_name cx frames names) (λ s. give (meant dims s))

unfoldable pub written_type : UnitContext → List Frame → WrittenType → Judging MeantType
written_type cx frames w = type_by_base cx frames w.dims w.base

-- with the dimensions behind the name of what is declared (JLS 10.2)
abbrev pub with_more_dims : ℕ → MeantType → MeantType
with_more_dims dims m = if m.is_variable then variable else known (with_dims dims m.ty)
