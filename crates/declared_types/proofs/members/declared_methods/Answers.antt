use Rattle.std.proofs.Common.{subst, take_all, arith}
use Rattle.dialogue.specs.Dialogue.{each}
use Rattle.dialogue.specs.Told.{Told}
use Rattle.declared_types.specs.Signatures.{method_of}
use Rattle.declared_types.proofs.Loops.{each_more}
use Rattle.declared_types.proofs.members.declared_methods.Goals as goal

pub loop-m-preserved : goal.loop-m-preserved
loop-m-preserved g c =
    rw c.in_ok-push.ensures.items (each_more (g.C.Classes.world c.args.c.now) c.args.methods.now c.loop-m.m-index
    c.m-item.result c.loop-m-test.true c.m-item.is c.args.asks.now c.loop-m.asks c.method_of.new.asks
    (method_of c.args.body.now) c.loop-m.declared.items c.in_ok-method.method c.loop-m.invariant
    c.in_ok-method.ensures)

pub returns : goal.returns
returns g c =
    let f = method_of c.args.body.now in
    let w = g.C.Classes.world c.args.c.now in
    subst (λ xs. Told (each f xs) w c.args.asks.now c.loop-m.asks c.loop-m.declared.items)
    (take_all c.loop-m.m-index c.args.methods.now (omega (arith, c.loop-m-test.false))) c.loop-m.invariant
