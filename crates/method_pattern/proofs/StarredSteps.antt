-- Stars and letters, byte by byte.
use Rattle.std.proofs.Common.{◌≡◌, ℕ, ◌+◌, ◌<◌, ◌≤◌, inl, inr, Bool, true, false, ◌||◌, eqb, List, [], ◌∷◌, ◌++◌, length, Some, None}
use Rattle.std.proofs.Common.{get_or, take, drop, refl, sym, ap, subst, ◌∙◌, arith, append-nil, length-append}
use Rattle.std.proofs.lemmas.List.{drop_all, drop_more}
use Rattle.std.proofs.lemmas.Str.{encode_same, encode_ascii}
use Rattle.std.specs.Char.{encode_utf8}
use Rattle.std.specs.Str.{encode_utf8_all}
use Rattle.unicode_ident.proofs.IdentLemmas.{is_xid_start-ascii, is_xid_continue-ascii}
use Rattle.rw_base.specs.Fronts.{BeginsSome}
use Rattle.java_lex.specs.Words.{IsLetter}
use Rattle.method_pattern.specs.Texts.{IsWrongAt}
use Rattle.method_pattern.specs.Letters.{letter_test, BeginsLetter, IsFront}
use Rattle.method_pattern.specs.declared.letters.Front.TheVariants.{Letter}
use Rattle.method_pattern.specs.Reading.{GoesOn, Goes, StarredFrom}
use Rattle.method_pattern.proofs.LetterSteps.{encode-some, front_of_letter}
use Rattle.method_pattern.proofs.Places.{first, first_front, goes_on}

-- a star is no letter
pub star_fails : (before : Bool) → letter_test before 42 ≡ false
star_fails true = ap (λ v. v || eqb 42 95 || eqb 42 36) (is_xid_continue-ascii 42 (omega arith))
star_fails false = ap (λ v. v || eqb 42 95 || eqb 42 36) (is_xid_start-ascii 42 (omega arith))

pub no_star : (before : Bool) (c : ℕ) → IsLetter (letter_test before) c → c ≡ 42 → ⊥
no_star before c letter e =
    let f : true ≡ false = sym letter.passes ∙ (ap (letter_test before) e ∙ star_fails before) in cc

star_is : encode_utf8 42 ≡ 42 ∷ []
star_is = encode_ascii 42 (omega arith)

-- the first character of a text is this one
pub first_char : (c : ℕ) (rest cs : List ℕ) → encode_utf8 c ++ rest ≡ encode_utf8_all cs
    → (ds : List ℕ) × ((cs ≡ c ∷ ds) × (rest ≡ encode_utf8_all ds))
first_char c rest [] e = absurd (omega (arith, encode-some c, ap length e, length-append (encode_utf8 c) rest))
first_char c rest (d ∷ ds) e =
    let same = encode_same c d rest (encode_utf8_all ds) e in
    (ds, (ap (λ x. x ∷ ds) (sym same.0), same.1))

-- ---- a star

star_up : (before has : Bool) (rest : List ℕ) → StarredFrom before has rest → StarredFrom before has (42 ∷ [] ++ rest)
star_up before has rest (cs, h) =
    (42 ∷ cs, (ap (λ x. x ++ rest) (sym star_is) ∙ ap (λ x. encode_utf8 42 ++ x) h.0, inl (refl, h.1)))

star_down : (before has : Bool) (rest : List ℕ) → StarredFrom before has (42 ∷ [] ++ rest) → StarredFrom before has rest
star_down before has rest (cs, h) =
    let f = first_char 42 rest cs (ap (λ x. x ++ rest) star_is ∙ h.0) in
    let whole : Goes before (42 ∷ f.0) has = subst (λ x. Goes before x has) f.1.0 h.1 in
    (f.0, (f.1.1, elim whole [ inl star ↦ star.1 | inr letter ↦ absurd (no_star before 42 letter.0 refl) ]))

pub star_read : (text : List ℕ) (at : ℕ) (before : Bool) → GoesOn (StarredFrom false) (StarredFrom before) (λ x. x) text at
    → at < length text → get_or text at 0 ≡ 42 → GoesOn (StarredFrom false) (StarredFrom before) (λ x. x) text (at + 1)
star_read text at before g lt e =
    goes_on (StarredFrom false) (StarredFrom before) (StarredFrom before) (λ x. x) (λ x. x) text at g (42 ∷ []) (drop (at + 1) text)
    (drop_more text at 0 lt ∙ ap (λ b. b ∷ drop (at + 1) text) e)
    (λ x rest h. star_up before x rest h) (λ y rest f h. (y, star_down before y rest h)) 1 refl

-- ---- a letter

letter_up : (before has : Bool) (c : ℕ) (rest : List ℕ) → IsLetter (letter_test before) c → StarredFrom true has rest
    → StarredFrom before has (encode_utf8 c ++ rest)
letter_up before has c rest letter (cs, h) = (c ∷ cs, (ap (λ x. encode_utf8 c ++ x) h.0, inr (letter, h.1)))

letter_down : (before has : Bool) (c : ℕ) (rest : List ℕ) → IsLetter (letter_test before) c
    → StarredFrom before has (encode_utf8 c ++ rest) → StarredFrom true has rest
letter_down before has c rest letter (cs, h) =
    let f = first_char c rest cs h.0 in
    let whole : Goes before (c ∷ f.0) has = subst (λ x. Goes before x has) f.1.0 h.1 in
    (f.0, (f.1.1, elim whole [ inl star ↦ absurd (no_star before c letter star.0) | inr other ↦ other.1 ]))

pub letter_read : (text : List ℕ) (at size : ℕ) (before : Bool) → GoesOn (StarredFrom false) (StarredFrom before) (λ x. x) text at
    → IsFront before (Letter size) (drop at text) → GoesOn (StarredFrom false) (StarredFrom true) (λ x. x) text (at + size)
letter_read text at size before g l =
    goes_on (StarredFrom false) (StarredFrom before) (StarredFrom true) (λ x. x) (λ x. x) text at g (encode_utf8 l.0)
    (drop size (drop at text)) l.1
    (λ x rest h. letter_up before x l.0 rest l.3 h) (λ y rest f h. (y, letter_down before y l.0 rest l.3 h)) size l.2

pub some_size : (before : Bool) (s : List ℕ) (size : ℕ) → IsFront before (Letter size) s → 0 < size
some_size before s size l = omega (arith, encode-some l.0, l.2)

-- ---- neither

none_goes_on : (before : Bool) (s : List ℕ) (b : ℕ) → (b ≡ 42 → ⊥) → first s ≡ Some b → (has : Bool) → StarredFrom before has s
    → (c : ℕ) × BeginsLetter before c s
none_goes_on before s b other e has ([], h) = absurd (let f : Some b ≡ None = sym e ∙ ap first h.0 in cc)
none_goes_on before s b other e has (c ∷ cs, h) = elim h.1 [
  | inl star ↦ absurd (other (
      let whole : s ≡ 42 ∷ encode_utf8_all cs =
      h.0 ∙ (ap (λ x. encode_utf8 x ++ encode_utf8_all cs) star.0 ∙ ap (λ x. x ++ encode_utf8_all cs) star_is) in
      let f : Some b ≡ Some 42 = sym e ∙ ap first whole in cc))
  | inr letter ↦ (c, (encode_utf8_all cs, h.0, letter.0))
]

pub not_starred : (before : Bool) (s : List ℕ) (n : ℕ) → 0 < length s → (get_or s 0 0 ≡ 42 → ⊥)
    → IsWrongAt (BeginsLetter before) s n → IsWrongAt (StarredFrom before) s n
not_starred before [] n some other w = absurd (omega arith)
not_starred before (b ∷ s) n some other w = record {
  wrong = λ has h. let c = none_goes_on before (b ∷ s) b other refl has h in w.wrong c.0 c.1;
  longest = record {
    within = w.longest.within;
    begins = begins;
    ends = λ lt h.
        let c = none_goes_on before (take (n + 1) (b ∷ s) ++ h.1.0) b other (first_front (b ∷ s) h.1.0 n lt) h.0 h.1.1 in
        w.longest.ends lt (c.0, (h.1.0, c.1));
  };
}
  where
    letter_text : (c : ℕ) (t : List ℕ) → encode_utf8 c ≡ t → IsLetter (letter_test before) c → StarredFrom before true t
    letter_text c t is letter = (c ∷ [], (sym is ∙ sym (append-nil (encode_utf8 c)), inr (letter, refl)))

    begins : BeginsSome (StarredFrom before) (take n (b ∷ s))
    begins =
        let l = front_of_letter before (b ∷ s) n w.wrong w.longest.begins in
        (true, (l.1.0, letter_text l.0 (take n (b ∷ s) ++ l.1.0) l.1.1 l.1.2))

pub starred_end : (text : List ℕ) (at : ℕ) (before : Bool) → GoesOn (StarredFrom false) (StarredFrom before) (λ x. x) text at
    → length text ≤ at → StarredFrom false before text
starred_end text at before g le = g.value before ([], (drop_all at text le, refl))
