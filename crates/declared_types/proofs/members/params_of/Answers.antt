use Rattle.std.proofs.Common.{subst, take_all, arith}
use Rattle.dialogue.specs.Dialogue.{each}
use Rattle.dialogue.specs.Told.{Told}
use Rattle.declared_types.specs.Signatures.{param_written}
use Rattle.declared_types.proofs.Loops.{each_more}
use Rattle.declared_types.proofs.members.params_of.Goals as goal

pub loop-param-preserved : goal.loop-param-preserved
loop-param-preserved g c =
    rw c.in_ok-push.ensures.items (each_more (g.C.Classes.world c.args.c.now) c.args.params.now
    c.loop-param.param-index c.param-item.result c.loop-param-test.true c.param-item.is c.args.asks.now
    c.loop-param.asks c.param_written.new.asks (param_written c.args.body.now c.args.own.now) c.loop-param.types.items
    c.in_ok-ty.ty c.loop-param.invariant c.in_ok-ty.ensures)

pub returns : goal.returns
returns g c =
    let f = param_written c.args.body.now c.args.own.now in
    let w = g.C.Classes.world c.args.c.now in
    rw c.in_ok-list.ensures (subst (λ xs. Told (each f xs) w c.args.asks.now c.loop-param.asks c.loop-param.types.items)
    (take_all c.loop-param.param-index c.args.params.now (omega (arith, c.loop-param-test.false)))
    c.loop-param.invariant)
