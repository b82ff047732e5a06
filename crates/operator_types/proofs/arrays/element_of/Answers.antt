use Rattle.std.proofs.Common.{◌∙◌}
use Rattle.jtypes.specs.Arrays.{array_is}
use Rattle.operator_types.proofs.ArrayTypes.{no_element}
use Rattle.operator_types.proofs.arrays.element_of.Goals as goal

pub returns-in_ok-copy-in-Array : goal.returns-in_ok-copy-in-Array
returns-in_ok-copy-in-Array c = rw (c.in-Array.is, array_is) (c.in_ok-copy-in-Array.ensures ∙ c.get.ensures)

pub returns-in_default : goal.returns-in_default
returns-in_default c = no_element c.args.t.now c.in_default.not-Array
