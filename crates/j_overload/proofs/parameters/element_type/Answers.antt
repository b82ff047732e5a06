use Rattle.jtypes.specs.Arrays.{array_is}
use Rattle.j_overload.proofs.TypeLists.{not_array}
use Rattle.j_overload.proofs.parameters.element_type.Goals as goal

pub returns-in-Array : goal.returns-in-Array
returns-in-Array c = rw (c.in-Array.is, array_is) c.get.ensures

pub returns-in_default : goal.returns-in_default
returns-in_default c = not_array c.args.t.now c.in_default.not-Array
