use Rattle.std.proofs.Common.{◌≡◌, ◌++◌, drop}
use Rattle.j_attrib.specs.Values.{operands}
use Rattle.j_attrib.proofs.values.operands.Given as goal

abbrev pub invariant-loop-value : goal.invariant-loop-value
invariant-loop-value l = l.types ++ operands (drop l.value-index l.values) ≡ operands l.values
