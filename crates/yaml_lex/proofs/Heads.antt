-- Heads of block scalars.
use Rattle.std.proofs.Common.{◌≡◌, ℕ, ◌+◌, ◌-◌, ◌<◌, ◌≤◌, inl, inr, Bool, true, false, cond, not, List, [], ◌∷◌, length, drop, get_or, Option, Some, None, refl, sym, ◌∙◌, ap, subst, arith}
use Rattle.std.proofs.lemmas.Bool.{cases_lt}
use Rattle.std.proofs.lemmas.Bool.Decides.{nat_tests}
use Rattle.std.proofs.lemmas.List.{drop-drop, length-drop}
use Rattle.yaml_lex.specs.Characters.{begins, is_line_end}
use Rattle.yaml_lex.specs.Scalars.{IsRun, in_line}
use Rattle.yaml_lex.specs.BlockScalars.{chomp_size, is_digit, has_digit, signs_size, digit_of, is_head_over, IsHead, ending_size}
use Rattle.yaml_lex.specs.Scanning.{NoHead, AtLineEnd}
use Rattle.yaml_lex.proofs.RunLemmas.{begins-at, begins-end, not-both}

-- ---- the digit, at the byte where it may stand

pub digit-here : (s : List ℕ) (at : ℕ) → at ≡ 1 + chomp_size s → at < length s → has_digit s ≡ is_digit (get_or s at 0)
digit-here s at is low = ap (λ k. begins is_digit (drop k s)) (sym is) ∙ begins-at is_digit s at low

pub digit-short : (s : List ℕ) (at : ℕ) → at ≡ 1 + chomp_size s → length s ≤ at → has_digit s ≡ false
digit-short s at is past = ap (λ k. begins is_digit (drop k s)) (sym is) ∙ begins-end is_digit s at past

pub digit-inside : (s : List ℕ) (at : ℕ) → at ≡ 1 + chomp_size s → has_digit s ≡ true → at < length s
digit-inside s at is e = elim (cases_lt at (length s)) [
  | inl low ↦ low
  | inr past ↦ absurd (not-both (has_digit s) e (digit-short s at is past))
]

digit-low-byte : (b : ℕ) → is_digit b ≡ true → 49 ≤ b
digit-low-byte b e = grind (arith, nat_tests)

pub digit-low : (s : List ℕ) (at : ℕ) → at ≡ 1 + chomp_size s → has_digit s ≡ true → 49 ≤ get_or s at 0
digit-low s at is e = digit-low-byte (get_or s at 0) (sym (digit-here s at is (digit-inside s at is e)) ∙ e)

if-so : (v : Bool) (x y : Option ℕ) → v ≡ true → cond v x y ≡ x
if-so true x y e = refl
if-so false x y e = absurd (cc)

if-not : (v : Bool) (x y : Option ℕ) → v ≡ false → cond v x y ≡ y
if-not false x y e = refl
if-not true x y e = absurd (cc)

pub digit-some : (s : List ℕ) (at : ℕ) → at ≡ 1 + chomp_size s → has_digit s ≡ true → digit_of s ≡ Some (get_or s at 0 - 48)
digit-some s at is e = if-so (has_digit s) _ None e ∙ ap (λ k. Some (get_or s k 0 - 48)) (sym is)

pub digit-none : (s : List ℕ) → has_digit s ≡ false → digit_of s ≡ None
digit-none s e = if-not (has_digit s) (Some (get_or s (1 + chomp_size s) 0 - 48)) None e

if-one : (v : Bool) (x y : ℕ) → v ≡ true → cond v x y ≡ x
if-one true x y e = refl
if-one false x y e = absurd (cc)

if-none : (v : Bool) (x y : ℕ) → v ≡ false → cond v x y ≡ y
if-none false x y e = refl
if-none true x y e = absurd (cc)

pub signs-digit : (s : List ℕ) (at : ℕ) → at ≡ 1 + chomp_size s → has_digit s ≡ true → signs_size s ≡ at + 1
signs-digit s at is e = ap (λ k. 1 + chomp_size s + k) (if-one (has_digit s) 1 0 e) ∙ ap (λ k. k + 1) (sym is)

pub signs-none : (s : List ℕ) (at : ℕ) → at ≡ 1 + chomp_size s → has_digit s ≡ false → signs_size s ≡ at
signs-none s at is e = ap (λ k. 1 + chomp_size s + k) (if-none (has_digit s) 1 0 e) ∙ (let f : 1 + chomp_size s + 0 ≡ at = omega (arith, is) in f)

pub ruleset digit_by = (digit-here, digit-short, digit-inside, digit-low, digit-some, digit-none, signs-digit, signs-none)

-- ---- the head; t is the code's text behind the signs

pub is-head : (s t : List ℕ) (signs n : ℕ) → signs ≡ signs_size s → t ≡ drop signs s → is_head_over t ≡ true → IsRun in_line t n → IsHead s (signs + n)
is-head s t signs n is same over run = record {
  over = subst (λ k. is_head_over (drop k s) ≡ true) is (subst (λ x. is_head_over x ≡ true) same over);
  rest = n;
  line = subst (λ k. IsRun in_line (drop k s) n) is (subst (λ x. IsRun in_line x n) same run);
  size = ap (λ k. k + n) is;
}

pub no-head : (s t : List ℕ) (signs : ℕ) → signs ≡ signs_size s → t ≡ drop signs s → is_head_over t ≡ false → NoHead s
no-head s t signs is same over n head =
    not-both (is_head_over (drop (signs_size s) s)) head.over (subst (λ k. is_head_over (drop k s) ≡ false) is (subst (λ x. is_head_over x ≡ false) same over))

-- a run up to the line's end ends there
ending-some : (b : ℕ) (rest : List ℕ) → not (is_line_end b) ≡ false → 0 < ending_size (b ∷ rest)
ending-some b [] e = grind (arith, nat_tests)
ending-some b (c ∷ rest) e = grind (arith, nat_tests)

pub at-ending : (t : List ℕ) → begins in_line t ≡ false → AtLineEnd t
at-ending [] e = inl refl
at-ending (b ∷ rest) e = inr (ending-some b rest e)

pub head-line : (s t : List ℕ) (signs n : ℕ) → signs ≤ length s → t ≡ drop signs s → IsRun in_line t n → (signs + n ≤ length s) × AtLineEnd (drop (signs + n) s)
head-line s t signs n low same run =
    let here : IsRun in_line (drop signs s) n = subst (λ x. IsRun in_line x n) same run in (
      omega (arith, here.inside, length-drop signs s, low),
      subst (λ x. AtLineEnd x) (drop-drop n signs s) (at-ending (drop n (drop signs s)) here.ends),
    )
