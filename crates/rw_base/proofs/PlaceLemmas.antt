-- One byte more of a place.
use Rattle.std.proofs.Common.{◌≡◌, ℕ, zero, suc, ◌+◌, ◌≤◌, true, false, List, refl, add-one, arith, inl, inr}
use Rattle.std.specs.Prelude.{slice_index}
use Rattle.std.proofs.lemmas.Bool.{cases_Bool}
use Rattle.rw_base.specs.Places.{ends_line, is_continuation, line_of, column_of}

module _ (bytes : List ℕ) (k : ℕ) where
  pub line_ends : ends_line bytes k ≡ true → line_of bytes (k + 1) ≡ line_of bytes k + 1
  unfolding line_of
  line_ends e = rw (add-one, e) refl

  pub line_stays : ends_line bytes k ≡ false → line_of bytes (k + 1) ≡ line_of bytes k
  unfolding line_of
  line_stays e = rw (add-one, e) refl

  pub column_begins : ends_line bytes k ≡ true → column_of bytes (k + 1) ≡ 1
  unfolding column_of
  column_begins e = rw (add-one, e) refl

  pub column_stays : ends_line bytes k ≡ false → is_continuation (slice_index bytes k) ≡ true → column_of bytes (k + 1) ≡ column_of bytes k
  unfolding column_of
  column_stays e g = rw (add-one, e, g) refl

  pub column_rises : ends_line bytes k ≡ false → is_continuation (slice_index bytes k) ≡ false → column_of bytes (k + 1) ≡ column_of bytes k + 1
  unfolding column_of
  column_rises e g = rw (add-one, e, g) refl

pub ruleset steps = (line_ends, line_stays, column_begins, column_stays, column_rises)

-- a line and a column take a byte at least
pub few_lines : (bytes : List ℕ) (k : ℕ) → line_of bytes k ≤ k + 1
unfolding line_of
few_lines bytes zero = omega arith
few_lines bytes (suc k) = elim (cases_Bool (ends_line bytes k)) [
  | inl e ↦ rw e (omega (arith, few_lines bytes k))
  | inr e ↦ rw e (omega (arith, few_lines bytes k))
]

pub few_columns : (bytes : List ℕ) (k : ℕ) → column_of bytes k ≤ k + 1
unfolding column_of
few_columns bytes zero = omega arith
few_columns bytes (suc k) = elim (cases_Bool (ends_line bytes k)) [
  | inl e ↦ rw e (omega arith)
  | inr e ↦ elim (cases_Bool (is_continuation (slice_index bytes k))) [
    | inl g ↦ rw (e, g) (omega (arith, few_columns bytes k))
    | inr g ↦ rw (e, g) (omega (arith, few_columns bytes k))
  ]
]
