use Rattle.std.proofs.Common.{◌∙◌, ap}
use Rattle.jtypes.specs.Arrays.{ArrayOf, array_is}
use Rattle.operator_types.proofs.arrays.array_of.Goals as goal

pub returns : goal.returns
returns c = array_is c.in_ok-element.element ∙ ap (λ t. ArrayOf t) c.in_ok-element.ensures
