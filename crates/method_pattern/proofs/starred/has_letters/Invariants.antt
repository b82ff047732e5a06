use Rattle.std.proofs.Common.{◌-◌, length, false}
use Rattle.method_pattern.specs.Reading.{GoesOn, StarredFrom}
use Rattle.method_pattern.proofs.starred.has_letters.Given as goal

abbrev pub invariant-loop-at : goal.invariant-loop-at
invariant-loop-at l = GoesOn (StarredFrom false) (StarredFrom l.behind_letters) (λ x. x) l.text l.at

abbrev pub decreases-loop-at : goal.decreases-loop-at
decreases-loop-at l = length l.initial.text - l.at
