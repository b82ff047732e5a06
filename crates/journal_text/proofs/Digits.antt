-- The digits of numerals.
use Rattle.std.proofs.Common.{◌≡◌, ◌≢◌, ◌⊎◌, inl, inr, ℕ, zero, suc, ◌+◌, ◌-◌, ◌<◌, true, false, List, [], ◌∷◌, ◌++◌, map, get_or, refl, sym, ap, ◌∙◌, subst, arith}
use Rattle.std.specs.Int.Digits.{digits_of, number_from_digits, AllBelowBase}
use Rattle.std.proofs.lemmas.Bool.{false≢true}
use Rattle.std.proofs.lemmas.Bool.Decides.{nat_tests}
use Rattle.std.proofs.lemmas.Int.Digits.{all_below_base_digits_of, number_digits_of, first_digits_of}
use Rattle.journal_text.specs.Numerals.{numeral}
use Rattle.journal_text.specs.Parts.{Lacks, is_digit, NoDigit}
use Rattle.journal_text.proofs.Numbers.{numeral_above}
use Rattle.journal_text.proofs.Split.{heads, tails}

-- each byte is a digit
abbrev pub AllDigit : List ℕ → Type 0
AllDigit [] = Unit {0}
AllDigit (b ∷ bytes) = (is_digit b ≡ true) × AllDigit bytes

digit_in_range : (d : ℕ) → d < 10 → is_digit (48 + d) ≡ true
digit_in_range d lt = grind (arith, nat_tests)

all_digits_map : (ds : List ℕ) → AllBelowBase 10 ds → AllDigit (map (λ d. 48 + d) ds)
all_digits_map [] below = tt
all_digits_map (d ∷ ds) below = (digit_in_range d below.0, all_digits_map ds below.1)

pub all_digits : (n : ℕ) → AllDigit (numeral n)
unfolding numeral
all_digits zero = (refl, tt)
all_digits (suc n) = all_digits_map (digits_of 10 (suc n)) (all_below_base_digits_of 10 (suc n) (omega arith))

pub digits_lack : (end : ℕ) (text : List ℕ) → is_digit end ≡ false → AllDigit text → Lacks end text
digits_lack end [] apart all = tt
digits_lack end (b ∷ text) apart all = ((λ e. false≢true (sym apart ∙ (ap is_digit (sym e) ∙ all.0))), digits_lack end text apart all.1)

pub numeral_lacks : (end n : ℕ) → is_digit end ≡ false → Lacks end (numeral n)
numeral_lacks end n apart = digits_lack end (numeral n) apart (all_digits n)

-- the number that digits write
abbrev value_of : List ℕ → ℕ
value_of text = number_from_digits 10 (map (λ b. b - 48) text)

back : (ds : List ℕ) → map (λ b. b - 48) (map (λ d. 48 + d) ds) ≡ ds
back [] = refl
back (d ∷ ds) = let e : 48 + d - 48 ≡ d = omega arith in ap (λ x. x ∷ map (λ b. b - 48) (map (λ d. 48 + d) ds)) e ∙ ap (λ l. d ∷ l) (back ds)

value_of-numeral : (n : ℕ) → value_of (numeral n) ≡ n
unfolding numeral
value_of-numeral zero = refl
value_of-numeral (suc n) = ap (number_from_digits 10) (back (digits_of 10 (suc n))) ∙ number_digits_of 10 (suc n) (omega arith)

pub numeral_same : (m n : ℕ) → numeral m ≡ numeral n → m ≡ n
numeral_same m n e = sym (value_of-numeral m) ∙ (ap value_of e ∙ value_of-numeral n)

first_map : (ds : List ℕ) → 0 < get_or ds 0 0 → 48 < get_or (map (λ d. 48 + d) ds) 0 0
first_map [] lt = absurd (omega arith)
first_map (d ∷ ds) lt = omega arith

-- no numeral but that of 0 begins with 0
pub first_digit : (n : ℕ) → 0 < n → 48 < get_or (numeral n) 0 0
first_digit n lt = subst (λ t. 48 < get_or t 0 0) (sym (numeral_above n lt)) (first_map (digits_of 10 n) (first_digits_of 10 n (omega arith) lt))

-- the first bytes behind digits that aren't digits are one
same_stop : (s t : List ℕ) (x y : ℕ) (u v : List ℕ) → AllDigit s → AllDigit t → is_digit x ≡ false → is_digit y ≡ false → s ++ x ∷ u ≡ t ++ y ∷ v → x ≡ y
same_stop [] [] x y u v ds dt nx ny e = heads x y u v e
same_stop [] (b ∷ t) x y u v ds dt nx ny e = absurd (false≢true (sym nx ∙ (ap is_digit (heads x b u (t ++ y ∷ v) e) ∙ dt.0)))
same_stop (a ∷ s) [] x y u v ds dt nx ny e = absurd (false≢true (sym ny ∙ (ap is_digit (sym (heads a y (s ++ x ∷ u) v e)) ∙ ds.0)))
same_stop (a ∷ s) (b ∷ t) x y u v ds dt nx ny e = same_stop s t x y u v ds.1 dt.1 nx ny (tails a b (s ++ x ∷ u) (t ++ y ∷ v) e)

zero_first : (t l r : List ℕ) → 48 < get_or t 0 0 → 48 ∷ l ≡ t ++ r → ⊥
zero_first [] l r lt e = omega arith
zero_first (d ∷ t) l r lt e = let h = heads 48 d l (t ++ r) e in omega arith

-- behind a 0 no digit can follow
zero_alone : (m end x : ℕ) (r rest : List ℕ) → x ≢ end → 48 ∷ x ∷ r ≡ numeral m ++ end ∷ rest → ⊥
unfolding numeral
zero_alone zero end x r rest other e = other (heads x end r rest (tails 48 48 (x ∷ r) (end ∷ rest) e))
zero_alone (suc m) end x r rest other e = zero_first (numeral (suc m)) (x ∷ r) (end ∷ rest) (first_digit (suc m) (omega arith)) e

zero_numeral : numeral 0 ≡ 48 ∷ []
unfolding numeral
zero_numeral = refl

-- a byte that can't follow a number
pub bad_byte : (end x n m : ℕ) (r rest : List ℕ) → is_digit end ≡ false → x ≢ end → (n ≡ 0) ⊎ (is_digit x ≡ false) → numeral n ++ x ∷ r ≡ numeral m ++ end ∷ rest → ⊥
bad_byte end x n m r rest apart other (inr no_digit) e = other (same_stop (numeral n) (numeral m) x end r rest (all_digits n) (all_digits m) no_digit apart e)
bad_byte end x n m r rest apart other (inl none) e = zero_alone m end x r rest other (ap (λ t. t ++ x ∷ r) (sym (ap numeral none ∙ zero_numeral)) ∙ e)

digit_within : (t rest : List ℕ) (end : ℕ) → AllDigit (t ++ end ∷ rest) → is_digit end ≡ true
digit_within [] rest end all = all.0
digit_within (d ∷ t) rest end all = digit_within t rest end all.1

-- the bytes end within the digits
pub bad_end : (end n m : ℕ) (rest : List ℕ) → is_digit end ≡ false → numeral n ≡ numeral m ++ end ∷ rest → ⊥
bad_end end n m rest apart e = false≢true (sym apart ∙ digit_within (numeral m) rest end (subst AllDigit e (all_digits n)))

some_first : (t : List ℕ) → 48 < get_or t 0 0 → (d : ℕ) × ((ds : List ℕ) × (t ≡ d ∷ ds))
some_first [] lt = absurd (omega arith)
some_first (d ∷ ds) lt = (d, (ds, refl))

pub begins_with_digit : (n : ℕ) → (d : ℕ) × ((ds : List ℕ) × ((numeral n ≡ d ∷ ds) × (is_digit d ≡ true)))
begins_with_digit zero = (48, ([], (zero_numeral, refl)))
begins_with_digit (suc n) =
    let f = some_first (numeral (suc n)) (first_digit (suc n) (omega arith)) in
    let all : AllDigit (f.0 ∷ f.1.0) = subst AllDigit f.1.1 (all_digits (suc n)) in
    (f.0, (f.1.0, (f.1.1, all.0)))

pub no_number : (m : ℕ) (bytes rest : List ℕ) → NoDigit bytes → bytes ≡ numeral m ++ rest → ⊥
no_number m bytes rest none e =
    let f = begins_with_digit m in
    let whole : bytes ≡ f.0 ∷ (f.1.0 ++ rest) = e ∙ ap (λ t. t ++ rest) f.1.1.0 in
    let first : NoDigit (f.0 ∷ (f.1.0 ++ rest)) = subst NoDigit whole none in
    false≢true (sym first ∙ f.1.1.1)
