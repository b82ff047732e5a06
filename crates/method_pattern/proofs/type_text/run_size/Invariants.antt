use Rattle.std.proofs.Common.{◌≡◌, take, true}
use Rattle.std.specs.List.{list_all}
use Rattle.method_pattern.specs.Reading.{outside}
use Rattle.method_pattern.proofs.type_text.run_size.Given as goal

abbrev pub invariant-loop-at : goal.invariant-loop-at
invariant-loop-at l = list_all (outside l.ends) (take l.at l.text) ≡ true
