use Rattle.j_attrib.proofs.ExpressionSteps.{chosen}
use Rattle.j_attrib.proofs.expressions.choice.Goals as goal

pub returns : goal.returns
returns g c =
    let w = g.C.Classes.world c.args.c.now in
    chosen c.args.node c.args.values.now w c.args.log.now _ _ _ _
    (rw (c.in_ok-a.ensures, c.in_ok-b.ensures) at c.in_ok-ty.ensures.told) (c.in_ok-value.ensures w)
