use Rattle.std.proofs.Common.{◌≡◌, ◌≤◌, ◌-◌}
use Rattle.declared_types.specs.Signatures.{arrays_of}
use Rattle.declared_types.proofs.member_types.arrays_of.Given as goal

abbrev pub invariant-loop-count : goal.invariant-loop-count
invariant-loop-count l = record { within : l.count ≤ l.dims; made : l.ty ≡ arrays_of l.count l.initial.ty }

abbrev pub decreases-loop-count : goal.decreases-loop-count
decreases-loop-count l = l.dims - l.count
