use Rattle.std.proofs.Common.{◌≡◌, ◌++◌, drop, length}
use Rattle.scheduler.specs.Runs.{values_for}
use Rattle.scheduler.proofs.scanning.scan_all.Given as goal

abbrev pub invariant-loop-leaf : goal.invariant-loop-leaf
invariant-loop-leaf l = record {
  values : l.values.items ++ values_for l.kept (drop l.leaf-index l.leaves) ≡ values_for l.kept l.leaves;
  count : length l.values.items ≡ l.leaf-index;
}
