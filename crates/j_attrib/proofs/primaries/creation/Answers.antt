use Rattle.j_attrib.proofs.PrimarySteps.{unfinished, unwritten}
use Rattle.j_attrib.proofs.primaries.creation.Goals as goal

pub returns-in_default : goal.returns-in_default
returns-in_default g c =
    rw c.expr.ensures (unwritten c.args.u.now (g.C.Classes.world c.args.c.now) c.args.log.now c.args.name c.args.created
    c.args.rest c.in_default.not-Written)

pub returns : goal.returns
returns g c =
    rw (c.in-Written.is, c.expr-in_default-rest.ensures) (unfinished c.args.u.now (g.C.Classes.world c.args.c.now)
    c.args.log.now c.args.name c.in-Written.meant c.args.rest c.in_default-rest.not-Args c.in_default-rest.not-Dims)
