use Rattle.std.proofs.Common.{◌≡◌, ◌+◌, drop}
use Rattle.method_pattern.specs.Reading.{common}
use Rattle.method_pattern.proofs.starred.common.Given as goal

abbrev pub invariant-loop-at : goal.invariant-loop-at
invariant-loop-at l = l.at + common (drop l.at l.word) (drop l.at l.text) ≡ common l.word l.text
