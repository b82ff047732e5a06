use Rattle.declared_types.specs.Resolving.{part_behind}
use Rattle.declared_types.proofs.Loops.{turn_more}
use Rattle.declared_types.proofs.resolving.parts_behind.Goals as goal

pub loop-part-preserved : goal.loop-part-preserved
loop-part-preserved g c =
    turn_more (g.C.Classes.world c.args.c.now) c.args.parts.now c.loop-part.part-index c.part-item.result
    c.loop-part-test.true c.part-item.is c.args.asks.now c.loop-part.asks c.type_behind_asking.new.asks
    (part_behind c.args.cx.now) c.args.scope c.loop-part.meaning c.in_ok-meaning.meaning c.loop-part.invariant
    c.in_ok-meaning.ensures.told
