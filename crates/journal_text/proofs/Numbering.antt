-- Reading the digits of a number.
use Rattle.std.proofs.Common.{◌≡◌, ◌≢◌, inl, inr, ℕ, ◌+◌, ◌-◌, ◌*◌, ◌^◌, ◌<◌, ◌≤◌, min, true, false, List, [], ◌∷◌, ◌++◌, length, get_or, drop, refl, sym, ap, ◌∙◌, subst, arith, append_assoc}
use Rattle.std.proofs.lemmas.Bool.Decides.{nat_tests}
use Rattle.std.proofs.lemmas.List.{drop_more, drop_all}
use Rattle.journal_text.specs.Forms.{StuckAt}
use Rattle.journal_text.specs.Numerals.{numeral}
use Rattle.journal_text.specs.Parts.{is_digit, NoDigit, begins_with, IsNumeral, Ended, TookDigits, Digits, TookNumber}
use Rattle.journal_text.proofs.Numbers.{numeral_step, numeral_digit}
use Rattle.journal_text.proofs.Places.{begun}
use Rattle.journal_text.proofs.Stuck.{stuck_no_number, stuck_number}

in_range : (b : ℕ) → is_digit b ≡ true → (48 ≤ b) × (b < 58)
in_range b e = (grind (arith, nat_tests), grind (arith, nat_tests))

held_step : (held n d next : ℕ) → held ≡ min n (2 ^ 64 - 1) → next ≡ min (min (held * 10) (2 ^ 64 - 1) + d) (2 ^ 64 - 1) → next ≡ min (n * 10 + d) (2 ^ 64 - 1)
held_step held n d next h e = omega arith

pub digits_step : (bytes : List ℕ) (at end held next : ℕ) → end < length bytes → is_digit (get_or bytes end 0) ≡ true
    → next ≡ min (min (held * 10) (2 ^ 64 - 1) + (get_or bytes end 0 - 48)) (2 ^ 64 - 1) → Digits bytes at end held → Digits bytes at (end + 1) next
digits_step bytes at end held next lt is e d =
    let b = get_or bytes end 0 in
    let r = in_range b is in
    let back : 48 + (b - 48) ≡ b = omega (arith, r) in
    record {
      n = d.n * 10 + (b - 48);
      above = omega (arith, d.above);
      value = held_step held d.n (b - 48) next d.value e;
      taken = d.taken ∙ (ap (λ t. numeral d.n ++ t) (drop_more bytes end 0 lt) ∙ (sym (append_assoc (numeral d.n) (b ∷ []) (drop (end + 1) bytes))
          ∙ ap (λ t. t ++ drop (end + 1) bytes) (ap (λ x. numeral d.n ++ x ∷ []) (sym back) ∙ sym (numeral_step d.n (b - 48) d.above (omega (arith, r))))));
    }

pub digits_first : (bytes : List ℕ) (at : ℕ) → at < length bytes → is_digit (get_or bytes at 0) ≡ true → get_or bytes at 0 ≢ 48 → Digits bytes at (at + 1) (get_or bytes at 0 - 48)
digits_first bytes at lt is other =
    let b = get_or bytes at 0 in
    let r = in_range b is in
    let back : 48 + (b - 48) ≡ b = omega (arith, r) in
    record {
      n = b - 48;
      above = omega (arith, r, other);
      value = omega (arith, r);
      taken = drop_more bytes at 0 lt ∙ ap (λ t. t ++ drop (at + 1) bytes) (ap (λ x. x ∷ []) (sym back) ∙ sym (numeral_digit (b - 48) (omega (arith, r))));
    }

pub digits_zero : (bytes : List ℕ) (at : ℕ) → at < length bytes → get_or bytes at 0 ≡ 48 → TookDigits bytes at (at + 1) 0
digits_zero bytes at lt is = record {
  n = 0;
  value = omega arith;
  place = omega (arith, lt);
  taken = drop_more bytes at 0 lt ∙ ap (λ t. t ++ drop (at + 1) bytes) (ap (λ x. x ∷ []) is ∙ sym (numeral_digit 0 (omega arith)));
  over = inl refl;
}

no_digit_there : (bytes : List ℕ) (end : ℕ) → end < length bytes → is_digit (get_or bytes end 0) ≡ false → NoDigit (drop end bytes)
no_digit_there bytes end lt apart = subst NoDigit (sym (drop_more bytes end 0 lt)) apart

pub digits_over : (bytes : List ℕ) (at end held : ℕ) → end < length bytes → is_digit (get_or bytes end 0) ≡ false → Digits bytes at end held → TookDigits bytes at end held
digits_over bytes at end held lt apart d = record { n = d.n; value = d.value; place = omega (arith, lt); taken = d.taken; over = inr (no_digit_there bytes end lt apart) }

pub digits_all : (bytes : List ℕ) (at held : ℕ) → Digits bytes at (length bytes) held → TookDigits bytes at (length bytes) held
digits_all bytes at held d = record { n = d.n; value = d.value; place = omega arith; taken = d.taken; over = inr (subst NoDigit (sym (drop_all (length bytes) bytes (omega arith))) tt) }

pub number_took : (byte : ℕ) (bytes : List ℕ) (at end held : ℕ) → TookDigits bytes at end held → begins_with byte (drop end bytes) ≡ true → TookNumber byte bytes at (end + 1) held
number_took byte bytes at end held d is =
    let next = begun bytes end byte is in
    record {
      n = d.n;
      value = d.value;
      took = record {
        place = omega (arith, next.0);
        text = numeral d.n ++ byte ∷ [];
        spells = record { body = numeral d.n; spells = record { is = refl }; ended = refl };
        taken = d.taken ∙ (ap (λ t. numeral d.n ++ t) next.1 ∙ sym (append_assoc (numeral d.n) (byte ∷ []) (drop (end + 1) bytes)));
      };
    }

pub number_stuck : (byte : ℕ) (bytes : List ℕ) (at end held : ℕ) → is_digit byte ≡ false → TookDigits bytes at end held → begins_with byte (drop end bytes) ≡ false → StuckAt (Ended IsNumeral byte) bytes at end
number_stuck byte bytes at end held apart d other = record {
  place = d.place;
  front = numeral d.n;
  seen = d.taken;
  stuck = stuck_number byte d.n (drop end bytes) apart d.over other;
}

pub number_nowhere : (byte : ℕ) (bytes : List ℕ) (at : ℕ) → at ≤ length bytes → NoDigit (drop at bytes) → StuckAt (Ended IsNumeral byte) bytes at at
number_nowhere byte bytes at le none = record { place = le; front = []; seen = refl; stuck = stuck_no_number byte (drop at bytes) none }
