-- One byte more of a text, as the reader's loops go over it.
use Rattle.std.proofs.Common.{◌≡◌, ℕ, suc, ◌+◌, ◌<◌, ◌≤◌, true, false, List, [], ◌∷◌, length, get_or, take, drop, refl, ◌∙◌, ap, arith, inl, inr, zero}
use Rattle.std.specs.Prelude.{◌==◌}
use Rattle.std.proofs.lemmas.List.{at_drop_more, at_drop_all}
use Rattle.std.proofs.lemmas.Bool.{or_parts, or_from, cases_Bool}
use Rattle.properties_tree.specs.Characters.{is_line_end, is_blank}
use Rattle.properties_tree.specs.Plain.{has_backslash}
use Rattle.properties_tree.specs.Lines.{leading_blanks, behind_blanks}
use Rattle.properties_tree.specs.Sizes.{text_length}

module _ (s : List ℕ) (i : ℕ) (inside : i < length s) where
  pub text_more : is_line_end (get_or s i 0) ≡ false → text_length (drop i s) ≡ suc (text_length (drop (i + 1) s))
  text_more e = at_drop_more text_length s i 0 inside ∙ rw e refl

  pub text_stops : is_line_end (get_or s i 0) ≡ true → text_length (drop i s) ≡ 0
  text_stops e = at_drop_more text_length s i 0 inside ∙ rw e refl

  pub blanks_more : is_blank (get_or s i 0) ≡ true → length (leading_blanks (drop i s)) ≡ suc (length (leading_blanks (drop (i + 1) s)))
  blanks_more e = at_drop_more (λ (t : List ℕ). length (leading_blanks t)) s i 0 inside ∙ rw e refl

  pub blanks_stop : is_blank (get_or s i 0) ≡ false → length (leading_blanks (drop i s)) ≡ 0
  blanks_stop e = at_drop_more (λ (t : List ℕ). length (leading_blanks t)) s i 0 inside ∙ rw e refl

pub text_past : (s : List ℕ) (i : ℕ) → length s ≤ i → text_length (drop i s) ≡ 0
text_past s i h = at_drop_all text_length s i h

pub blanks_past : (s : List ℕ) (i : ℕ) → length s ≤ i → length (leading_blanks (drop i s)) ≡ 0
blanks_past s i h = at_drop_all (λ (t : List ℕ). length (leading_blanks t)) s i h

pub none_in_drop : (n : ℕ) (s : List ℕ) → has_backslash s ≡ false → has_backslash (drop n s) ≡ false
none_in_drop zero s none = none
none_in_drop (suc n) [] none = none
none_in_drop (suc n) (b ∷ rest) none = none_in_drop n rest (or_parts (b == 92) (has_backslash rest) none).1

pub none_in_take : (n : ℕ) (s : List ℕ) → has_backslash s ≡ false → has_backslash (take n s) ≡ false
none_in_take zero s none = refl
none_in_take (suc n) [] none = none
none_in_take (suc n) (b ∷ rest) none =
    let parts = or_parts (b == 92) (has_backslash rest) none in
    or_from (b == 92) (has_backslash (take n rest)) parts.0 (none_in_take n rest parts.1)

pub plain_more : (i : ℕ) (s : List ℕ) → i < length s → has_backslash (take i s) ≡ false → (get_or s i 0 == 92) ≡ false → has_backslash (take (suc i) s) ≡ false
plain_more i [] h none other = absurd (omega arith)
plain_more zero (b ∷ rest) h none other = rw other refl
plain_more (suc i) (b ∷ rest) h none other =
    let parts = or_parts (b == 92) (has_backslash (take i rest)) none in
    or_from (b == 92) (has_backslash (take (suc i) rest)) parts.0 (plain_more i rest (omega arith) parts.1 other)

pub behind_blanks_is : (s : List ℕ) → behind_blanks s ≡ drop (length (leading_blanks s)) s
behind_blanks_is [] = refl
behind_blanks_is (b ∷ rest) = elim (cases_Bool (is_blank b)) [ inl e ↦ rw e (behind_blanks_is rest) | inr e ↦ rw e refl ]

pub blanks-le : (s : List ℕ) → length (leading_blanks s) ≤ length s
blanks-le [] = omega arith
blanks-le (b ∷ rest) = elim (cases_Bool (is_blank b)) [ inl e ↦ rw e (let more = blanks-le rest in omega arith) | inr e ↦ rw e (omega arith) ]

pub leading_is : (s : List ℕ) → leading_blanks s ≡ take (length (leading_blanks s)) s
leading_is [] = refl
leading_is (b ∷ rest) = elim (cases_Bool (is_blank b)) [ inl e ↦ rw e (ap (λ t. b ∷ t) (leading_is rest)) | inr e ↦ rw e refl ]

pub ruleset over_text = (text_more, text_stops, text_past)

pub ruleset over_blanks = (blanks_more, blanks_stop, blanks_past)
