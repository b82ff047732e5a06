use Rattle.j_attrib.proofs.WrittenSteps.{annotated}
use Rattle.j_attrib.proofs.written.annotation_meant.Goals as goal

pub returns : goal.returns
returns g c =
    annotated c.args.u.now c.args.frames.now c.args.leaves.now c.in_ok-names.names _ _ _ c.in_ok-symbol.symbol _
    c.in_ok-names.ensures (rw (c.context.ensures, c.as_slice.ensures) at c.in_ok-symbol.ensures.judged)
    c.class_meant-value.ensures
