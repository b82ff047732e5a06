use Rattle.std.proofs.Common.{◌≡◌, ◌++◌, ◌-◌, ◌≤◌, length, drop}
use Rattle.properties_tree.specs.Decoding.{decode, utf8_of, elements_of}
use Rattle.properties_tree.specs.Steps.{waiting_elements}
use Rattle.properties_tree.proofs.decoding.decode.Given as goal

abbrev pub invariant-loop-at : goal.invariant-loop-at
invariant-loop-at l = record {
  value : decode l.text ≡ l.out.items ++ utf8_of (waiting_elements l.pending ++ elements_of (drop l.at l.text));
  inside : l.at ≤ length l.text;
}

abbrev pub decreases-loop-at : goal.decreases-loop-at
decreases-loop-at l = length l.text - l.at
