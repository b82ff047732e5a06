use Rattle.type_positions.proofs.ImportSteps.{name_judged, all_judged}
use Rattle.type_positions.proofs.imports.import_part.Goals as goal

pub returns-in_ok-symbol-in-Name : goal.returns-in_ok-symbol-in-Name
returns-in_ok-symbol-in-Name g c =
    let w = g.C.Classes.world c.args.c.now in
    rw c.in-Name.is (name_judged c.args.cx.now c.args.static_end c.args.scope.now c.in-Name.p w c.args.log.now _ _ _ _ c.in_ok-meaning-in-Name.ensures (c.in_ok-symbol-in-Name.ensures w))

pub returns-in-All : goal.returns-in-All
returns-in-All g c = rw c.in-All.is (all_judged c.args.cx.now c.args.static_end c.args.scope.now _ c.args.log.now)
