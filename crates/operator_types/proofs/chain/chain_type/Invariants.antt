use Rattle.std.proofs.Common.{◌≡◌, take}
use Rattle.operator_types.specs.Operators.{chain_type}
use Rattle.operator_types.proofs.chain.chain_type.Given as goal

abbrev pub invariant-loop-operation : goal.invariant-loop-operation
invariant-loop-operation l = l.ty ≡ chain_type l.first (take l.operation-index l.rest)
