use Rattle.std.proofs.Common.{◌≡◌, drop}
use Rattle.j_attrib.specs.Values.{args_in}
use Rattle.j_attrib.proofs.values.args_in.Given as goal

abbrev pub invariant-loop-value : goal.invariant-loop-value
invariant-loop-value l = args_in (drop l.value-index l.values) ≡ args_in l.values
