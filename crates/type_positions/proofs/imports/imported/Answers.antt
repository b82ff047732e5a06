use Rattle.type_positions.proofs.ImportSteps.{imported_judged}
use Rattle.type_positions.proofs.imports.imported.Goals as goal

pub returns : goal.returns
returns g c =
    let w = g.C.Classes.world c.args.c.now in
    record { judged = imported_judged c.args.cx.now c.args.is_static c.args.first.now c.args.parts.now w c.args.log.now _ _ _ _ (rw c.in_ok-copy.ensures at (c.in_ok-scope.ensures w)) c.in_ok-symbol.ensures }
