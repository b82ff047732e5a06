use Rattle.std.proofs.Common.{◌≡◌, drop}
use Rattle.declared_types.proofs.same.are_same.Given as goal

abbrev pub invariant-loop-at : goal.invariant-loop-at
invariant-loop-at g l = drop l.at l.items ≡ drop l.at l.others → l.items ≡ l.others
