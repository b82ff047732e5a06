use Rattle.std.proofs.Common.{◌≡◌, ◌++◌, take}
use Rattle.j_attrib.proofs.values.add_params.Given as goal

abbrev pub invariant-loop-parameter : goal.invariant-loop-parameter
invariant-loop-parameter l = l.all ≡ l.fn.all ++ take l.parameter-index l.params
