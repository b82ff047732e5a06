use Rattle.std.proofs.lemmas.List.{drop_all}
use Rattle.type_positions.proofs.NameSteps.{parts_end, parts_next, here}
use Rattle.type_positions.proofs.type_names.parts_behind.Goals as goal

pub loop-part-init : goal.loop-part-init
loop-part-init g c = λ new y h. h

pub loop-part-preserved : goal.loop-part-preserved
loop-part-preserved g c = λ new y h.
    c.loop-part.invariant new y
    (parts_next c.args.cx.now c.loop-part.symbol c.in_ok-symbol.symbol y c.part-item.result _ _ _ _ _ _
    (here c.args.parts.now c.loop-part.part-index c.part-item.result c.loop-part-test.true c.part-item.is) c.in_ok-symbol.ensures h)

pub returns : goal.returns
returns g c =
    c.loop-part.invariant c.loop-part.log c.loop-part.symbol
    (parts_end c.args.cx.now c.loop-part.symbol _ _ c.loop-part.log (drop_all c.loop-part.part-index c.args.parts.now c.loop-part-test.false))
