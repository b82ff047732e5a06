use Rattle.std.proofs.Common.{◌≡◌, drop}
use Rattle.yaml_texts.specs.Spelled.{goes_on}
use Rattle.yaml_texts.proofs.spelling.goes_on.Given as goal

abbrev pub invariant-loop-at : goal.invariant-loop-at
invariant-loop-at l = goes_on l.flow (drop l.at l.text) ≡ goes_on l.flow l.text
