use Rattle.std.proofs.Common.{◌≡◌, take, map}
use Rattle.j_attrib.proofs.expressions.operations_of.Given as goal

abbrev pub invariant-loop-right : goal.invariant-loop-right
invariant-loop-right l = l.operations ≡ map (λ t. record { operator = l.operator; right = t }) (take l.right-index l.types)
