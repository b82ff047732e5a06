use Rattle.std.proofs.Common.{◌≡◌, ◌++◌, drop}
use Rattle.j_attrib.specs.Values.{params_in}
use Rattle.j_attrib.proofs.values.params_in.Given as goal

abbrev pub invariant-loop-value : goal.invariant-loop-value
invariant-loop-value l = l.all ++ params_in (drop l.value-index l.values) ≡ params_in l.values
