-- Which bytes stars and letters never have.
use Rattle.std.proofs.Common.{◌≡◌, ℕ, ◌<◌, ◌≤◌, inl, inr, Bool, true, false, not, cond, ltb, ◌||◌, ◌&&◌, ◌%◌, ◌/◌, ◌+◌, List, [], ◌∷◌}
use Rattle.std.proofs.Common.{refl, sym, ap, ◌∙◌, arith}
use Rattle.std.specs.Prelude.{◌==◌, nat_lt}
use Rattle.std.specs.List.{list_all, list_any}
use Rattle.std.specs.Char.{encode_utf8, is_ascii_alphanumeric}
use Rattle.std.specs.Str.{encode_utf8_all}
use Rattle.std.proofs.lemmas.Bool.{and_parts, cases_lt, ne_eqb}
use Rattle.std.proofs.lemmas.Bool.Decides.{nat_tests}
use Rattle.std.proofs.lemmas.List.Folds.{list_all-append}
use Rattle.std.proofs.lemmas.Str.{encode_ascii}
use Rattle.unicode_ident.specs.Ident.{is_xid_start, is_xid_continue}
use Rattle.unicode_ident.proofs.IdentLemmas.{is_xid_continue-ascii, is_xid_start-is_xid_continue}
use Rattle.java_lex.specs.Words.{IsLetter}
use Rattle.method_pattern.specs.Texts.{IsPart}
use Rattle.method_pattern.specs.Letters.{letter_test}
use Rattle.method_pattern.specs.Reading.{Goes, StarredFrom, outside}
use Rattle.method_pattern.proofs.LetterSteps.{bytes_by}
use Rattle.method_pattern.proofs.PartSteps.{part_starred}

-- ---- bytes of letters

abbrev ascii_letter : ℕ → Bool
ascii_letter c = is_ascii_alphanumeric c || (c == 95) || (c == 36)

-- an ASCII character that is neither a letter nor a star
abbrev pub no_letter : ℕ → Bool
no_letter e = nat_lt e 128 && not (e == 42) && not (ascii_letter e)

or_again : (x y z : Bool) → (x || y || y || z) ≡ true → (x || y || z) ≡ true
or_again true y z e = refl
or_again false true z e = refl
or_again false false z e = e

or_wider : (x w y z : Bool) → (x ≡ true → w ≡ true) → (x || y || z) ≡ true → (w || y || z) ≡ true
or_wider true w y z up e = ap (λ v. v || y || z) (up refl)
or_wider false true y z up e = refl
or_wider false false y z up e = e

continues_of : (before : Bool) (c : ℕ) → letter_test before c ≡ true → (is_xid_continue c || (c == 95) || (c == 36)) ≡ true
continues_of true c e = e
continues_of false c e = or_wider (is_xid_start c) (is_xid_continue c) (c == 95) (c == 36) (is_xid_start-is_xid_continue c) e

ascii_letter_of : (before : Bool) (c : ℕ) → c < 128 → letter_test before c ≡ true → ascii_letter c ≡ true
ascii_letter_of before c low e =
    or_again (is_ascii_alphanumeric c) (c == 95) (c == 36)
    (ap (λ v. v || (c == 95) || (c == 36)) (sym (is_xid_continue-ascii c low)) ∙ continues_of before c e)

and_three : (x y z : Bool) → (x && y && z) ≡ true → (x ≡ true) × (y ≡ true) × (z ≡ true)
and_three true true true e = (refl, refl, refl)
and_three true true false e = absurd (let f : false ≡ true = e in cc)
and_three true false z e = absurd (let f : false ≡ true = e in cc)
and_three false y z e = absurd (let f : false ≡ true = e in cc)

not_both : (v : Bool) → not v ≡ true → v ≡ true → ⊥
not_both true e f = let g : false ≡ true = e in cc
not_both false e f = let g : false ≡ true = f in cc

-- ---- what a test spares

-- a test that each byte of stars and letters passes
pub record Spares (p : ℕ → Bool) : Type 0 where
  pub star : p 42 ≡ true
  pub wide : (b : ℕ) → 128 ≤ b → p b ≡ true
  pub letter : (before : Bool) (c : ℕ) → IsLetter (letter_test before) c → c < 128 → p c ≡ true

outside_true : (b : ℕ) (ends : List ℕ) → list_all no_letter ends ≡ true → ((e : ℕ) → no_letter e ≡ true → e ≡ b → ⊥)
    → outside ends b ≡ true
outside_true b [] h none = refl
outside_true b (e ∷ ends) h none =
    let w = and_parts (no_letter e) (list_all no_letter ends) h in
    ap (λ v. not (v || list_any (λ x. x == b) ends)) (ne_eqb e b (none e w.0)) ∙ outside_true b ends w.1 none

pub spared : (ends : List ℕ) → list_all no_letter ends ≡ true → Spares (outside ends)
spared ends h = record {
  star = outside_true 42 ends h (λ e f is. let g : false ≡ true = sym (ap no_letter is) ∙ f in cc);
  wide = λ b high. outside_true b ends h (λ e f is.
      let w = and_three (nat_lt e 128) (not (e == 42)) (not (ascii_letter e)) f in
      low e b high is w.0);
  letter = λ before c l less. outside_true c ends h (λ e f is.
      let w = and_three (nat_lt e 128) (not (e == 42)) (not (ascii_letter e)) f in
      not_both (ascii_letter e) w.2 (ap ascii_letter is ∙ ascii_letter_of before c less l.passes));
}
  where
    low : (e b : ℕ) → 128 ≤ b → e ≡ b → nat_lt e 128 ≡ true → ⊥
    low e b high is t = let lt : e < 128 = grind (arith, nat_tests) in omega arith

-- ---- stars and letters

wide_bytes : (p : ℕ → Bool) → ((b : ℕ) → 128 ≤ b → p b ≡ true) → (c : ℕ) → 128 ≤ c → list_all p (encode_utf8 c) ≡ true
unfolding encode_utf8
wide_bytes p wide c high = go (ltb c 128) (ltb c 2048) (ltb c 65536) refl
  where
    all : (x : ℕ) (xs : List ℕ) → 128 ≤ x → list_all p xs ≡ true → (p x && list_all p xs) ≡ true
    all x xs h e = ap (λ v. v && list_all p xs) (wide x h) ∙ e

    last : (n : ℕ) → list_all p ((128 + n % 64) ∷ []) ≡ true
    last n = all (128 + n % 64) [] (omega arith) refl

    last_two : (n : ℕ) → list_all p ((128 + n / 64 % 64) ∷ (128 + n % 64) ∷ []) ≡ true
    last_two n = all (128 + n / 64 % 64) ((128 + n % 64) ∷ []) (omega arith) (last n)

    go : (u v w : Bool) → ltb c 128 ≡ u → list_all p (bytes_by u v w c) ≡ true
    go true v w e = absurd (let lt : c < 128 = grind (arith, nat_tests) in omega arith)
    go false true w e = all (192 + c / 64) ((128 + c % 64) ∷ []) (omega arith) (last c)
    go false false true e =
        all (224 + c / 4096) ((128 + c / 64 % 64) ∷ (128 + c % 64) ∷ []) (omega arith) (last_two c)
    go false false false e =
        all (240 + c / 262144) ((128 + c / 4096 % 64) ∷ (128 + c / 64 % 64) ∷ (128 + c % 64) ∷ []) (omega arith)
        (all (128 + c / 4096 % 64) ((128 + c / 64 % 64) ∷ (128 + c % 64) ∷ []) (omega arith) (last_two c))

letter_bytes : (p : ℕ → Bool) → Spares p → (before : Bool) (c : ℕ) → IsLetter (letter_test before) c → list_all p (encode_utf8 c) ≡ true
letter_bytes p s before c letter = elim (cases_lt c 128) [
  | inl low ↦ ap (list_all p) (encode_ascii c low) ∙ ap (λ v. v && true) (s.letter before c letter low)
  | inr high ↦ wide_bytes p s.wide c high
]

pub and_both : (v w : Bool) → v ≡ true → w ≡ true → (v && w) ≡ true
and_both v w e f = ap (λ x. x && w) e ∙ f

goes_all : (p : ℕ → Bool) → Spares p → (before has : Bool) (cs : List ℕ) → Goes before cs has → list_all p (encode_utf8_all cs) ≡ true
goes_all p s before has [] h = refl
goes_all p s before has (c ∷ cs) (inl star) =
    list_all-append p (encode_utf8 c) (encode_utf8_all cs)
    ∙ and_both _ _ (ap (λ x. list_all p (encode_utf8 x)) star.0 ∙ (ap (list_all p) (encode_ascii 42 (omega arith)) ∙ ap (λ v. v && true) s.star))
    (goes_all p s before has cs star.1)
goes_all p s before has (c ∷ cs) (inr letter) =
    list_all-append p (encode_utf8 c) (encode_utf8_all cs)
    ∙ and_both _ _ (letter_bytes p s before c letter.0) (goes_all p s true has cs letter.1)

pub starred_all : (p : ℕ → Bool) → Spares p → (has : Bool) (s : List ℕ) → StarredFrom false has s → list_all p s ≡ true
starred_all p s has t h = ap (list_all p) h.1.0 ∙ goes_all p s false has h.0 h.1.1

pub part_all : (p : ℕ → Bool) → Spares p → (s : List ℕ) → IsPart s → list_all p s ≡ true
part_all p s t h = let k = part_starred t h in starred_all p s k.0 t k.1
