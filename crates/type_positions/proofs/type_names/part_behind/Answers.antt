use Rattle.type_positions.proofs.NameSteps.{behind_judged}
use Rattle.type_positions.proofs.type_names.part_behind.Goals as goal

pub returns : goal.returns
returns g c =
    let w = g.C.Classes.world c.args.c.now in
    behind_judged c.args.cx.now c.args.scope.now c.args.part.now w c.args.log.now _ _ _ _ c.in_ok-meaning.ensures.told (c.in_ok-symbol.ensures w)
