use Rattle.std.proofs.Common.{◌∙◌, ap, nat_le, nat_lt, ◌-◌, arith}
use Rattle.std.proofs.lemmas.Bool.Decides.{nat_tests}
use Rattle.jtypes.specs.Arrays.{array_is}
use Rattle.operator_types.specs.Arrays.{dims_of}
use Rattle.operator_types.proofs.ArrayTypes.{no_dims, dims_below, none_below}
use Rattle.operator_types.proofs.arrays.+has_at_most.Goals as goal

pub returns-then-dims-gt0 : goal.returns-then-dims-gt0
returns-then-dims-gt0 t c =
    rw (c.in-Array.is, array_is)
    (c.has_at_most.ensures ∙ ap (λ x. nat_le (dims_of x) (c.args.dims - 1)) c.get.ensures ∙ dims_below (dims_of c.in-Array.element) c.args.dims (omega arith))

pub returns-else-dims-gt0 : goal.returns-else-dims-gt0
returns-else-dims-gt0 t c =
    rw (c.in-Array.is, array_is) (none_below (dims_of c.in-Array.element) c.args.dims (nat_lt 0 c.args.dims) c.if-dims-gt0.false (grind (arith, nat_tests)))

pub returns-in_default : goal.returns-in_default
returns-in_default t c = no_dims c.args.t.now c.args.dims c.in_default.not-Array
