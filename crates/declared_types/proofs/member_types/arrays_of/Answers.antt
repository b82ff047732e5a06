use Rattle.std.proofs.Common.{◌∙◌, ap, add-one, arith}
use Rattle.jtypes.specs.Arrays.{ArrayOf}
use Rattle.declared_types.proofs.member_types.arrays_of.Goals as goal

pub loop-count-preserved : goal.loop-count-preserved
loop-count-preserved c = record {
  within = omega arith;
  made = rw add-one (c.in_ok-ty.ensures ∙ ap (λ t. ArrayOf t) c.loop-count.invariant.made);
}
