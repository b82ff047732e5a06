-- Decimal digits.
use Rattle.std.proofs.Common.{◌≡◌, ℕ, zero, suc, ◌+◌, ◌*◌, ◌/◌, ◌%◌, ◌^◌, ◌<◌, ◌≤◌, [], ◌∷◌, ◌++◌, map, length, refl, sym, ap, ◌∙◌, arith}
use Rattle.std.specs.Fmt.{decimal}
use Rattle.std.specs.Int.Digits.{digits_of}
use Rattle.std.proofs.lemmas.Fmt.{decimal_digit, decimal-digits_of, length-decimal-le, decimal_nonempty}
use Rattle.std.proofs.lemmas.Int.Digits.{digits_of_step}
use Rattle.std.proofs.lemmas.List.{map-append}
use Rattle.journal_text.specs.Numerals.{numeral}

pub numeral-decimal : (n : ℕ) → n < 2 ^ 64 → numeral n ≡ decimal n
unfolding numeral
numeral-decimal zero lt = sym (decimal_digit 0 (omega arith))
numeral-decimal (suc n) lt = sym (decimal-digits_of (suc n) (omega arith) lt)

pub length-numeral : (n : ℕ) → n < 2 ^ 64 → (0 < length (numeral n)) × (length (numeral n) ≤ 20)
length-numeral n lt = rw (numeral-decimal n lt) (decimal_nonempty n lt, length-decimal-le 20 n (omega arith) (omega arith) lt)

-- a number above 0 by its digits
pub numeral_above : (n : ℕ) → 0 < n → numeral n ≡ map (λ digit. 48 + digit) (digits_of 10 n)
unfolding numeral
numeral_above zero lt = absurd (omega arith)
numeral_above (suc n) lt = refl

pub numeral_step : (n d : ℕ) → 0 < n → d < 10 → numeral (n * 10 + d) ≡ numeral n ++ (48 + d) ∷ []
numeral_step n d pos lt =
    let q : (n * 10 + d) / 10 ≡ n = omega arith in
    let r : (n * 10 + d) % 10 ≡ d = omega arith in
    numeral_above (n * 10 + d) (omega arith)
    ∙ ap (map (λ digit. 48 + digit)) (digits_of_step 10 (n * 10 + d) (omega arith) (omega arith))
    ∙ map-append (λ digit. 48 + digit) (digits_of 10 ((n * 10 + d) / 10)) ((n * 10 + d) % 10 ∷ [])
    ∙ ap (λ m. map (λ digit. 48 + digit) (digits_of 10 m) ++ (48 + (n * 10 + d) % 10) ∷ []) q
    ∙ ap (λ m. map (λ digit. 48 + digit) (digits_of 10 n) ++ (48 + m) ∷ []) r
    ∙ ap (λ t. t ++ (48 + d) ∷ []) (sym (numeral_above n pos))

pub numeral_digit : (d : ℕ) → d < 10 → numeral d ≡ (48 + d) ∷ []
numeral_digit d lt = numeral-decimal d (omega arith) ∙ decimal_digit d lt
