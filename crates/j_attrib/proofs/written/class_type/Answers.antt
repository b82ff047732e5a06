use Rattle.rw_base.specs.Laid.{forest_of}
use Rattle.j_attrib.proofs.WrittenSteps.{lambda_lone}
use Rattle.j_attrib.proofs.written.class_type.Goals as goal

pub returns-in_ok-value-in-LambdaParam-len1 : goal.returns-in_ok-value-in-LambdaParam-len1
returns-in_ok-value-in-LambdaParam-len1 g c =
    let u = c.args.u.now in
    let one = c.in-LambdaParam-len1 in
    lambda_lone u c.args.frames.now (forest_of u.tree.nodes c.args.parts.now) c.args.given.now c.args.leaves.now _ _ _ _
    one.is-0 one.len_at_least one.len_below c.in_ok-value-in-LambdaParam-len1.ensures
