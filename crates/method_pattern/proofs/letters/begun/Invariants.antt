use Rattle.std.proofs.Common.{◌≤◌, ◌-◌, length, take}
use Rattle.rw_base.specs.Fronts.{BeginsSome}
use Rattle.method_pattern.specs.Letters.{BeginsLetter}
use Rattle.method_pattern.proofs.letters.begun.Given as goal

abbrev pub invariant-loop-at : goal.invariant-loop-at
invariant-loop-at l = record {
  within : l.at ≤ length l.text;
  begins : BeginsSome (BeginsLetter l.behind_letters) (take l.at l.text);
}

abbrev pub decreases-loop-at : goal.decreases-loop-at
decreases-loop-at l = length l.initial.text - l.at
