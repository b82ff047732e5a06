use Rattle.std.proofs.Common.{◌≡◌, ◌++◌, ◌≤◌, ◌-◌, drop, length}
use Rattle.j_attrib.specs.Expressions.{operations}
use Rattle.j_attrib.proofs.expressions.operations.Given as goal

abbrev pub invariant-loop-at : goal.invariant-loop-at
invariant-loop-at l = record {
  same : l.all ++ operations (drop l.at l.words) (drop l.at l.types) ≡ operations l.words l.types;
  words : l.at ≤ length l.words;
}

abbrev pub decreases-loop-at : goal.decreases-loop-at
decreases-loop-at l = length l.words - l.at
