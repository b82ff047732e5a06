use Rattle.std.proofs.Common.{◌∙◌, sym}
use Rattle.j_attrib.proofs.PrimarySteps.{super_called, super_named}
use Rattle.j_attrib.proofs.primaries.super_or_call.Goals as goal

pub returns-in-None : goal.returns-in-None
returns-in-None g c =
    rw (c.in-None.is, c.expr.ensures) (super_named c.args.u.now c.context.result.now c.context.ensures
    (g.C.Classes.world c.args.c.now) c.args.log.now c.super_type.new.log c.args.leaf c.args.frames.now
    c.in_ok-whose.whose c.in_ok-whose.ensures.value c.in_ok-ty-in-None.ty c.in_ok-ty-in-None.ensures.judged)

pub returns : goal.returns
returns g c =
    rw (c.in-Some.is, c.expr-in-Some.ensures) (super_called c.args.u.now c.context.result.now c.context.ensures
    (g.C.Classes.world c.args.c.now) c.args.log.now c.super_call.new.log c.args.leaf c.args.frames.now
    c.in_ok-whose.whose c.in_ok-whose.ensures.value c.in-Some.args.now
    (rw (c.as_slice-args.ensures, c.context-in-Some.ensures ∙ sym c.context.ensures)
    at c.in_ok-super_call-in-Some.ensures.judged))
