use Rattle.std.proofs.Common.{◌≡◌}
use Rattle.operator_types.specs.Arrays.{arrays_of}
use Rattle.operator_types.proofs.arrays.arrays_of.Given as goal

abbrev pub invariant-loop-made : goal.invariant-loop-made
invariant-loop-made l = l.ty ≡ arrays_of l._made l.initial.ty
