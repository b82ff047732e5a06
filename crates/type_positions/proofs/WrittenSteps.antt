-- Judgements of written types, by their kinds.
use Rattle.std.proofs.Common.{◌≡◌, List}
use Rattle.jtypes.specs.World.{World}
use Rattle.jtypes.specs.declared.symbol.Symbol.{Symbol}
use Rattle.jtypes.specs.declared.types.JPrim.{JPrim}
use Rattle.jtypes.specs.declared.types.JType.TheVariants as ty
use Rattle.j_names.specs.declared.context.Frame.{Frame}
use Rattle.j_names.specs.declared.context.UnitContext.{UnitContext}
use Rattle.judging.specs.Judging.{Judged, give}
use Rattle.judging.specs.JudgingLaws.{judged_give, judged_then}
use Rattle.judging.specs.declared.log.Log.{Log}
use Rattle.operator_types.specs.Arrays.{with_dims}
use Rattle.type_positions.specs.declared.names.NamedLeaf.{NamedLeaf}
use Rattle.type_positions.specs.declared.written.MeantType.{MeantType}
use Rattle.type_positions.specs.declared.written.WrittenBase.TheVariants as base
use Rattle.type_positions.specs.declared.written.WrittenType.{WrittenType}
use Rattle.type_positions.specs.TypeNames.{type_name}
use Rattle.type_positions.specs.WrittenTypes.{known, meant, written_type}

module _ (cx : UnitContext) (frames : List Frame) (t : WrittenType) where
  pub prim_meant : (p : JPrim) (m : MeantType) (w : World) (l : Log) → t.base ≡ base.Prim p
      → m ≡ known (with_dims t.dims (ty.Prim p)) → Judged (written_type cx frames t) w l l m
  unfolding written_type
  prim_meant p m w l is e = rw (is, e) (judged_give w l (known (with_dims t.dims (ty.Prim p))))

  pub void_meant : (m : MeantType) (w : World) (l : Log) → t.base ≡ base.Void → m ≡ known ty.Void
      → Judged (written_type cx frames t) w l l m
  unfolding written_type
  void_meant m w l is e = rw (is, e) (judged_give w l (known ty.Void))

  pub named_meant : (names : List NamedLeaf) (s : Symbol) (m : MeantType) (w : World) (l n : Log)
      → t.base ≡ base.Named names → Judged (type_name cx frames names) w l n s → m ≡ meant t.dims s
      → Judged (written_type cx frames t) w l n m
  unfolding written_type
  named_meant names s m w l n is h e =
      rw (is, e)
      (judged_then (type_name cx frames names) (λ x. give (meant t.dims x)) w l n n s (meant t.dims s) h
      (judged_give w n (meant t.dims s)))
