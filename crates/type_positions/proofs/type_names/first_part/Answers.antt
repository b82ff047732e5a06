use Rattle.type_positions.proofs.NameSteps.{first_judged}
use Rattle.type_positions.proofs.type_names.first_part.Goals as goal

pub returns : goal.returns
returns g c =
    let w = g.C.Classes.world c.args.c.now in
    first_judged c.args.cx.now c.args.frames.now c.args.part.now w c.args.log.now _ _ _ _ c.in_ok-meaning.ensures.told (c.in_ok-symbol.ensures w)
