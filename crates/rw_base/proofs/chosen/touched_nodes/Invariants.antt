use Rattle.std.proofs.Common.{◌≡◌, length}
use Rattle.rw_base.specs.Chosen.{KnowsUntouched}
use Rattle.rw_base.proofs.chosen.touched_nodes.Given as goal

abbrev pub invariant-loop-n : goal.invariant-loop-n
invariant-loop-n l = record {
  long : length l.touched.items ≡ l.n;
  known : KnowsUntouched l.tree l.leaves l.nodes l.n l.touched.items;
}
