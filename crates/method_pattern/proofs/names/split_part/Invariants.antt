use Rattle.std.proofs.Common.{take}
use Rattle.method_pattern.proofs.Parts.{HasNoDot}
use Rattle.method_pattern.proofs.names.split_part.Given as goal

abbrev pub invariant-loop-at : goal.invariant-loop-at
invariant-loop-at l = HasNoDot (take l.at l.name)
