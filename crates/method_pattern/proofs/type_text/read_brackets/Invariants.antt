use Rattle.std.proofs.Common.{◌≡◌, ◌-◌, ◌*◌, length}
use Rattle.method_pattern.proofs.TypeSteps.{BracketsRead}
use Rattle.method_pattern.proofs.type_text.read_brackets.Given as goal

abbrev pub invariant-loop-at : goal.invariant-loop-at
invariant-loop-at l = record {
  twice : l.at ≡ 2 * l.dimensions;
  read : BracketsRead l.text l.dimensions l.at;
}

abbrev pub decreases-loop-at : goal.decreases-loop-at
decreases-loop-at l = length l.initial.text - l.at
