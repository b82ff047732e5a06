use Rattle.std.proofs.Common.{refl}
use Rattle.jtypes.specs.Arrays.{array_is}
use Rattle.jtypes.proofs.LeftOver.{array_apart, null_apart}
use Rattle.jtypes.proofs.subtypes.is_plain_subtype.Goals as goal

pub returns-in-Array-Class : goal.returns-in-Array-Class
returns-in-Array-Class c = rw (c.in-Array-Class.is-0, array_is, c.in-Array-Class.is-1) c.is_array_supertype.ensures

pub returns-in-Null-Array : goal.returns-in-Null-Array
returns-in-Null-Array c = rw (c.in-Null-Array.is-0, c.in-Null-Array.is-1, array_is) refl

pub returns-in_default-2 : goal.returns-in_default-2
returns-in_default-2 c = rw (c.in_default.is-0, array_is) (array_apart c.in_default.field-0-0 c.args.b.now c.in_default.not-Class-1)

pub returns-in_default-3 : goal.returns-in_default-3
returns-in_default-3 c = rw c.in_default.is-0 (null_apart c.args.b.now c.in_default.not-Class-1 c.in_default.not-Array-1 c.in_default.not-Null-1)
