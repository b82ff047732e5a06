use Rattle.std.proofs.Common.{◌≡◌, take, map}
use Rattle.j_attrib.specs.Values.{argument}
use Rattle.j_attrib.proofs.values.arguments.Given as goal

abbrev pub invariant-loop-value : goal.invariant-loop-value
invariant-loop-value l = l.args ≡ map argument (take l.value-index l.values)
