use Rattle.std.proofs.Common.{◌≡◌, ◌+◌, drop}
use Rattle.yaml_tree.specs.PathReading.{run_size}
use Rattle.yaml_tree.proofs.key_path.run_size.Given as goal

abbrev pub invariant-loop-at : goal.invariant-loop-at
invariant-loop-at l = l.at + run_size (drop l.at l.text) ≡ run_size l.text
