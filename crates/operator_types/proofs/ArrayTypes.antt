-- Types that are arrays, and others.
use Rattle.std.proofs.Common.{◌≡◌, ℕ, ◌+◌, ◌-◌, ◌<◌, ◌≤◌, Bool, true, false, nat_le, refl, sym, arith}
use Rattle.std.proofs.lemmas.Bool.Decides.{nat_tests}
use Rattle.jtypes.specs.Arrays.{ArrayOf, array_is}
use Rattle.jtypes.specs.declared.types.JType.{JType}
use Rattle.jtypes.specs.declared.types.JType.TheViews.{Array}
use Rattle.jtypes.specs.declared.types.JType.TheVariants.{Unknown}
use Rattle.operator_types.specs.Arrays.{dims_of, element_of}

pub no_element : (t : JType) → ((e : JType) → t ≡ Array e → ⊥) → Unknown ≡ element_of t
no_element (ArrayOf e) h = absurd (h e (sym (array_is e)))
no_element t h = refl

none_at_most : (n : ℕ) → true ≡ nat_le 0 n
none_at_most n = grind (arith, nat_tests)

pub no_dims : (t : JType) (n : ℕ) → ((e : JType) → t ≡ Array e → ⊥) → true ≡ nat_le (dims_of t) n
no_dims (ArrayOf e) n h = absurd (h e (sym (array_is e)))
no_dims t n h = none_at_most n

-- one dimension less
pub dims_below : (d n : ℕ) → 0 < n → nat_le d (n - 1) ≡ nat_le (d + 1) n
dims_below d n h = grind (arith, nat_tests)

pub none_below : (d n : ℕ) (r : Bool) → n ≤ 0 → r ≡ false → r ≡ nat_le (d + 1) n
none_below d n r h e = grind (arith, nat_tests)

-- so many dimensions more
pub room_left : (d n most : ℕ) → n ≤ most → nat_le d (most - n) ≡ nat_le (d + n) most
room_left d n most h = grind (arith, nat_tests)

pub no_room : (d n most : ℕ) → most < n → nat_le n most ≡ nat_le (d + n) most
no_room d n most h = grind (arith, nat_tests)
