use Rattle.j_attrib.proofs.PrimarySteps.{created_class}
use Rattle.j_attrib.proofs.primaries.constructed.Goals as goal

pub returns : goal.returns
returns g c =
    rw (c.expr.ensures, c.in_ok-ty.ensures) (created_class c.args.u.now c.context.result.now c.context.ensures
    (g.C.Classes.world c.args.c.now) c.args.log.now c.constructing.new.log c.args.leaf c.args.meant c.args.args.now
    c.in_ok-class.class c.in_ok-class.ensures (rw c.as_ref.ensures.value at c.in_ok-constructing.ensures.judged))
