use Rattle.std.proofs.Common.{ne_eqb}
use Rattle.rw_base.specs.Laid.{forest_of}
use Rattle.j_attrib.proofs.WrittenSteps.{outer_dims}
use Rattle.j_attrib.proofs.written.outer_type.Goals as goal

pub returns : goal.returns
returns g c =
    let u = c.args.u.now in
    outer_dims u c.args.frames.now (forest_of u.tree.nodes c.args.parts.now) c.args.values.now _ _ _
    (ne_eqb _ _ (rw c.first_word.ensures at c.if-first_word-eq-PRIM.false)) c.in_ok-value-2.ensures
