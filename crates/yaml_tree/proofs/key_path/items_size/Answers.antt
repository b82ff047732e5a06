use Rattle.std.proofs.Common.{◌<◌, length, arith}
use Rattle.yaml_tree.specs.declared.key_path.TheConstants.{ITEMS}
use Rattle.yaml_tree.proofs.PathSteps.{common_alike}
use Rattle.yaml_tree.proofs.key_path.items_size.Goals as goal

pub loop-at-preserved : goal.loop-at-preserved
loop-at-preserved c =
    let inside : c.loop-at.at < length ITEMS = omega arith in
    let step = common_alike ITEMS c.args.text.now c.loop-at.at inside c.loop-at-test.true (omega arith) in
    record { same = omega (arith, c.loop-at.invariant.same, step); most = omega arith }
