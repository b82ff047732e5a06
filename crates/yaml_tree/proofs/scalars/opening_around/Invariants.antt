use Rattle.std.proofs.Common.{◌≡◌, ◌+◌, ◌<◌, length, drop}
use Rattle.std.specs.Prelude.{IfSome}
use Rattle.yaml_tree.specs.Scalars.{opening_around}
use Rattle.yaml_tree.specs.Decoding.{HasLeaf}
use Rattle.yaml_tree.proofs.scalars.opening_around.Given as goal

abbrev pub invariant-loop-opening : goal.invariant-loop-opening
invariant-loop-opening l = record {
  inside : l.n.0 < length l.tree.nodes;
  has : HasLeaf l.tree.nodes l.i l.n.0;
  outer : l.outer ≡ opening_around l.i (drop (l.n.0 + 1) l.tree.nodes);
  before : IfSome l.outer (λ opening. opening < l.i);
}

abbrev pub decreases-loop-opening : goal.decreases-loop-opening
decreases-loop-opening l = l.n.0
