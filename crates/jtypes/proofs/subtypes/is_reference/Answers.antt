use Rattle.std.proofs.Common.{refl}
use Rattle.jtypes.specs.Arrays.{array_is}
use Rattle.jtypes.proofs.LeftOver.{no_reference}
use Rattle.jtypes.proofs.subtypes.is_reference.Goals as goal

pub returns-in_default : goal.returns-in_default
returns-in_default c = no_reference c.args.t.now c.in_default.not-Class c.in_default.not-Array

pub returns-in-Array : goal.returns-in-Array
returns-in-Array c = rw (c.in-Array.is, array_is) refl
