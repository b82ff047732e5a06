use Rattle.std.proofs.Common.{arith}
use Rattle.yaml_tree.proofs.Around.{whole_has, none_behind_root}
use Rattle.yaml_tree.proofs.scalars.opening_around.Goals as goal

pub loop-opening-init : goal.loop-opening-init
loop-opening-init c =
    let t = c.args.tree.now in
    let tree = c.root-n.ensures.tree in
    let r = c.root-n.result.0 in
    let value = c.root-n.ensures.value in
    record {
      inside = omega (arith, value, tree.root);
      has = whole_has t tree c.args.i r c.requires value;
      outer = none_behind_root t tree c.args.i r value;
      before = tt;
    }
