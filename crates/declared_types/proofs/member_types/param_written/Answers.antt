use Rattle.std.proofs.Common.{◌∷◌, subst}
use Rattle.dialogue.specs.Dialogue.{done}
use Rattle.dialogue.specs.Told.{Told}
use Rattle.declared_types.specs.Signatures.{plain_type, param_type, plain_written, param_written}
use Rattle.declared_types.proofs.MemberTypes.{by_name, without_name}
use Rattle.declared_types.proofs.member_types.param_written.Goals as goal

pub returns-in_ok-ty-in-Named : goal.returns-in_ok-ty-in-Named
unfolding param_written
returns-in_ok-ty-in-Named g c =
    let w = c.args.w.now in
    let b = c.args.body.now in
    by_name b.name c.args.own.now w.dims w.base (g.C.Classes.world c.args.c.now) c.in-Named.part c.in-Named.parts
    c.in-Named.is c.args.asks.now c.name_meant.new.asks c.in_ok-meaning-in-Named.meaning
    (rw c.as_slice.ensures at c.in_ok-meaning-in-Named.ensures) (param_type (c.args.own.now ∷ b.outer) w.dims)
    c.param_type.new.asks c.in_ok-ty-in-Named.ty c.in_ok-ty-in-Named.ensures

pub returns-in_ok-ty-in_default : goal.returns-in_ok-ty-in_default
unfolding plain_written param_written
returns-in_ok-ty-in_default g c =
    let w = c.args.w.now in
    let b = c.args.body.now in
    subst (λ d. Told d (g.C.Classes.world c.args.c.now) c.args.asks.now c.plain_written.new.asks
    c.in_ok-ty-in_default.ty)
    (without_name b.name c.args.own.now w.dims w.base (λ part parts e. c.in_default.not-Named part parts e)
    (λ m. done (plain_type w.dims m)) (param_type (c.args.own.now ∷ b.outer) w.dims))
    c.in_ok-ty-in_default.ensures
