use Rattle.j_attrib.proofs.PrimarySteps.{called, named}
use Rattle.j_attrib.proofs.primaries.name_or_call.Goals as goal

pub returns-in-None : goal.returns-in-None
returns-in-None g c =
    rw c.in-None.is (named c.args.u.now c.context.result.now c.context.ensures (g.C.Classes.world c.args.c.now)
    c.args.log.now c.simple_name.new.log c.args.leaf c.in_ok-name.name c.in_ok-name.ensures c.args.frames.now
    c.in_ok-denoted-in-None.denoted c.in_ok-denoted-in-None.ensures.judged)

pub returns : goal.returns
returns g c =
    rw (c.in-Some.is, c.expr.ensures) (called c.args.u.now c.context-in-Some.result.now c.context-in-Some.ensures
    (g.C.Classes.world c.args.c.now) c.args.log.now c.call.new.log c.args.leaf c.in_ok-name.name c.in_ok-name.ensures
    c.args.frames.now c.in-Some.args.now c.in_ok-ty-in-Some.ty
    (rw c.as_slice-args.ensures at c.in_ok-ty-in-Some.ensures.judged))
