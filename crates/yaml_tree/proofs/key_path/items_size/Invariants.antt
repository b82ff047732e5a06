use Rattle.std.proofs.Common.{◌≡◌, ◌+◌, ◌≤◌, drop}
use Rattle.yaml_tree.specs.declared.key_path.TheConstants.{ITEMS}
use Rattle.yaml_tree.specs.PathReading.{common}
use Rattle.yaml_tree.proofs.key_path.items_size.Given as goal

abbrev pub invariant-loop-at : goal.invariant-loop-at
invariant-loop-at l = record {
  same : l.at + common (drop l.at ITEMS) (drop l.at l.text) ≡ common ITEMS l.text;
  most : l.at ≤ 4;
}
