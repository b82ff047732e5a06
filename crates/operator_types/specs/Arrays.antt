-- Types of arrays and of their elements.
use Rattle.std.specs.Prelude.{ℕ, zero, suc, ◌+◌, nat_le, if◌then◌else◌}
use Rattle.jtypes.specs.Arrays.{ArrayOf}
use Rattle.jtypes.specs.declared.types.JType.{JType}
use Rattle.jtypes.specs.declared.types.JType.TheVariants.{Unknown}

-- the type of `a[i]` (JLS 15.13)
abbrev pub element_of : JType → JType
element_of (ArrayOf element) = element
element_of t = Unknown

-- how many dimensions a type has (JLS 10.1)
abbrev pub dims_of : JType → ℕ
dims_of (ArrayOf element) = dims_of element + 1
dims_of t = 0

abbrev pub arrays_of : ℕ → JType → JType
arrays_of zero t = t
arrays_of (suc n) t = ArrayOf (arrays_of n t)

-- an array type has at most 255 dimensions (JVMS 4.3.2)
unfoldable pub most_dims : ℕ
most_dims = 255

-- a type with so many dimensions more, as `[]` behind it or behind a name says (JLS 10.2); with too many in all it
-- isn't known
unfoldable pub with_dims : ℕ → JType → JType
with_dims dims t = if nat_le (dims_of t + dims) most_dims then arrays_of dims t else Unknown
