use Rattle.std.proofs.Common.{◌-◌, ◌<◌, ◌≤◌, length}
use Rattle.yaml_tree.proofs.Around.{BeginUpTo, BeginBehind}
use Rattle.yaml_tree.proofs.scalars.node_around.Given as goal

abbrev pub invariant-loop-from : goal.invariant-loop-from
invariant-loop-from l = record {
  order : l.from < l.to;
  inside : l.to ≤ length l.parts;
  before : BeginUpTo l.tree.nodes l.i l.n.0 l.from;
  behind : BeginBehind l.tree.nodes l.i l.n.0 l.to;
}

abbrev pub decreases-loop-from : goal.decreases-loop-from
decreases-loop-from l = l.to - l.from
