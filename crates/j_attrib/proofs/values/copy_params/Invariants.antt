use Rattle.std.proofs.Common.{◌≡◌, take}
use Rattle.j_attrib.proofs.values.copy_params.Given as goal

abbrev pub invariant-loop-parameter : goal.invariant-loop-parameter
invariant-loop-parameter l = l.copy ≡ take l.parameter-index l.params
