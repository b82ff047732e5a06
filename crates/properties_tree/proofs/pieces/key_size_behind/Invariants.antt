use Rattle.std.proofs.Common.{◌≡◌, ◌-◌, ◌≤◌, length, drop}
use Rattle.properties_tree.specs.Cutting.{key_size, key_end, pieces_in}
use Rattle.properties_tree.proofs.pieces.key_size_behind.Given as goal

abbrev pub invariant-loop-at : goal.invariant-loop-at
invariant-loop-at l = record {
  value : key_size l.text ≡ key_end l.end l.at (pieces_in (drop l.at l.text));
  ordered : l.end ≤ l.at;
  inside : l.at ≤ length l.text;
}

abbrev pub decreases-loop-at : goal.decreases-loop-at
decreases-loop-at l = length l.text - l.at
