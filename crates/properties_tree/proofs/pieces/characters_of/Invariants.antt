use Rattle.std.proofs.Common.{◌≡◌, ◌++◌, ◌-◌, ◌≤◌, length, drop}
use Rattle.properties_tree.specs.Entries.{characters_of}
use Rattle.properties_tree.specs.Cutting.{pieces_in}
use Rattle.properties_tree.proofs.pieces.characters_of.Given as goal

abbrev pub invariant-loop-at : goal.invariant-loop-at
invariant-loop-at l = record {
  value : characters_of (pieces_in l.text) ≡ l.out.items ++ characters_of (pieces_in (drop l.at l.text));
  inside : l.at ≤ length l.text;
}

abbrev pub decreases-loop-at : goal.decreases-loop-at
decreases-loop-at l = length l.text - l.at
