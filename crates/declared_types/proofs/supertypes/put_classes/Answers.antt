use Rattle.std.proofs.Common.{take_all, subst, arith}
use Rattle.declared_types.specs.Supertypes.{class_written}
use Rattle.declared_types.proofs.Classes.{Found, found_none, found_more, found_all}
use Rattle.declared_types.proofs.supertypes.put_classes.Goals as goal

pub loop-w-init : goal.loop-w-init
loop-w-init g c =
    found_none (class_written c.args.cx.now c.args.frames.now) c.args.types.now (g.C.Classes.world c.args.c.now)
    c.args.asks.now c.args.asks.now c.args.names.now.items

pub loop-w-preserved : goal.loop-w-preserved
loop-w-preserved g c =
    found_more (class_written c.args.cx.now c.args.frames.now) c.args.types.now (g.C.Classes.world c.args.c.now)
    c.args.asks.now c.loop-w.asks c.args.names.now.items c.loop-w.w-index c.w-item.result c.loop-w-test.true
    c.w-item.is c.loop-w.names.items c.loop-w.invariant c.class_written.new.asks c.in_ok-found.found
    c.in_ok-found.ensures c.put_found.new.names.items c.in_ok-put_found.ensures

pub returns : goal.returns
returns g c =
    let f = class_written c.args.cx.now c.args.frames.now in
    let w = g.C.Classes.world c.args.c.now in
    let before = c.args.names.now.items in
    found_all f c.args.types.now w c.args.asks.now c.loop-w.asks before c.loop-w.names.items
    (subst (λ xs. Found f xs w c.args.asks.now c.loop-w.asks before c.loop-w.names.items)
    (take_all c.loop-w.w-index c.args.types.now (omega (arith, c.loop-w-test.false))) c.loop-w.invariant)
