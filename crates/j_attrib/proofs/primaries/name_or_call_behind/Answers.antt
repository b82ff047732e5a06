use Rattle.j_attrib.proofs.PrimarySteps.{called_behind, named_behind}
use Rattle.j_attrib.proofs.primaries.name_or_call_behind.Goals as goal

pub returns-in-None : goal.returns-in-None
returns-in-None g c =
    rw c.in-None.is (named_behind c.args.u.now c.context.result.now c.context.ensures (g.C.Classes.world c.args.c.now)
    c.args.log.now c.name_behind.new.log c.args.leaf c.in_ok-name.name c.in_ok-name.ensures c.args.before.now
    c.in_ok-denoted-in-None.denoted c.in_ok-denoted-in-None.ensures.judged)

pub returns : goal.returns
returns g c =
    rw (c.in-Some.is, c.expr.ensures) (called_behind c.args.u.now c.context-in-Some.result.now c.context-in-Some.ensures
    (g.C.Classes.world c.args.c.now) c.args.log.now c.call_behind.new.log c.args.leaf c.in_ok-name.name
    c.in_ok-name.ensures c.args.before.now c.in-Some.args.now c.in_ok-ty-in-Some.ty
    (rw c.as_slice-args.ensures at c.in_ok-ty-in-Some.ensures.judged))
