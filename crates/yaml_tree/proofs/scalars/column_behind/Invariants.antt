use Rattle.std.proofs.Common.{◌≡◌, ◌≤◌, drop}
use Rattle.yaml_tree.specs.Decoding.{column_behind}
use Rattle.yaml_tree.proofs.scalars.column_behind.Given as goal

abbrev pub invariant-loop-b : goal.invariant-loop-b
invariant-loop-b l = record {
  next : column_behind l.column (drop l.b-index l.text) ≡ column_behind 0 l.text;
  most : l.column ≤ l.b-index;
}
