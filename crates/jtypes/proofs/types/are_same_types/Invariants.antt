use Rattle.std.proofs.Common.{◌≡◌, drop}
use Rattle.jtypes.proofs.types.are_same_types.Given as goal

abbrev pub invariant-loop-at : goal.invariant-loop-at
invariant-loop-at l = drop l.at l.types ≡ drop l.at l.others → l.types ≡ l.others
