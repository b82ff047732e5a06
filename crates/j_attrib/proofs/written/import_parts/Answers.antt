use Rattle.j_attrib.proofs.WrittenSteps.{over_all}
use Rattle.j_attrib.proofs.written.import_parts.Goals as goal

pub returns : goal.returns
returns c =
    over_all c.args.u.now c.args.u.now.tree.nodes c.args.parts.now c.loop-part.part-index c.loop-part.list _
    c.loop-part-test.false c.loop-part.invariant.same
