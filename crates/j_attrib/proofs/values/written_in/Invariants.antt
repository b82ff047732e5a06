use Rattle.std.proofs.Common.{◌≡◌, ◌++◌, drop}
use Rattle.j_attrib.specs.Values.{written_in}
use Rattle.j_attrib.proofs.values.written_in.Given as goal

abbrev pub invariant-loop-value : goal.invariant-loop-value
invariant-loop-value l = l.types ++ written_in (drop l.value-index l.values) ≡ written_in l.values
