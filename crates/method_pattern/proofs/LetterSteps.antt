-- The letters at the front of texts, and how far bytes begin one.
use Rattle.std.proofs.Common.{◌≡◌, ℕ, ◌+◌, ◌-◌, ◌*◌, ◌/◌, ◌%◌, ◌<◌, ◌≤◌, inl, inr, ◌⊎◌, Bool, true, false, cond, ltb, eqb}
use Rattle.std.proofs.Common.{◌||◌, List, [], ◌∷◌, ◌++◌, length, take, drop, get_or, Some, None, refl, sym, ◌∙◌, ap, subst}
use Rattle.std.proofs.Common.{arith, add-one, append_assoc, append-nil}
use Rattle.std.proofs.lemmas.Bool.{cases_lt}
use Rattle.std.proofs.lemmas.Bool.Decides.{nat_tests}
use Rattle.std.proofs.lemmas.List.{take-append-drop}
use Rattle.std.proofs.lemmas.Str.{encode_same, length-encode, len_utf8_bounds, encode_ascii, char_from_byte}
use Rattle.std.specs.Char.{encode_utf8}
use Rattle.bstr.specs.Utf8.{decoded, Decoded}
use Rattle.bstr.proofs.lemmas.SoundLemmas.{SpellsChar-decoded}
use Rattle.bstr.proofs.lemmas.EncodeLemmas.{decoded-encode}
use Rattle.unicode_ident.proofs.IdentLemmas.{is_xid_start-ascii, is_xid_continue-ascii}
use Rattle.rw_base.specs.Fronts.{BeginsSome, IsLongestFront}
use Rattle.java_lex.specs.Words.{IsLetter, begins_word, continues_word}
use Rattle.method_pattern.specs.Letters.{letter_test, BeginsLetter, IsLetterOf}

-- ---- the codes of the characters that begin with a byte

-- the UTF-8 of a character, by what its code is less than
abbrev pub bytes_by : Bool → Bool → Bool → ℕ → List ℕ
bytes_by u v w c =
    cond u (c ∷ [])
    (cond v ((192 + c / 64) ∷ (128 + c % 64) ∷ [])
    (cond w ((224 + c / 4096) ∷ (128 + c / 64 % 64) ∷ (128 + c % 64) ∷ [])
    ((240 + c / 262144) ∷ (128 + c / 4096 % 64) ∷ (128 + c / 64 % 64) ∷ (128 + c % 64) ∷ [])))

-- which code a character has whose UTF-8 begins with a byte
pub record Lead (c first : ℕ) : Type 0 where
  pub one : c < 128 → first ≡ c
  pub two : 128 ≤ c → c < 2048 → first ≡ 192 + c / 64
  pub three : 2048 ≤ c → c < 65536 → first ≡ 224 + c / 4096
  pub four : 65536 ≤ c → first ≡ 240 + c / 262144

pub lead : (c first : ℕ) (more : List ℕ) → encode_utf8 c ≡ first ∷ more → Lead c first
unfolding encode_utf8
lead c first more e = go (ltb c 128) (ltb c 2048) (ltb c 65536) refl refl refl e
  where
    go : (u v w : Bool) → ltb c 128 ≡ u → ltb c 2048 ≡ v → ltb c 65536 ≡ w
        → bytes_by u v w c ≡ first ∷ more → Lead c first
    go true v w a b d f =
        let low : c < 128 = grind (arith, nat_tests) in
        let is : first ≡ c = cc in
        record {
          one = λ h. is;
          two = λ h k. absurd (omega arith);
          three = λ h k. absurd (omega arith);
          four = λ h. absurd (omega arith);
        }
    go false true w a b d f =
        let high : 128 ≤ c = grind (arith, nat_tests) in
        let low : c < 2048 = grind (arith, nat_tests) in
        let is : first ≡ 192 + c / 64 = cc in
        record {
          one = λ h. absurd (omega arith);
          two = λ h k. is;
          three = λ h k. absurd (omega arith);
          four = λ h. absurd (omega arith);
        }
    go false false true a b d f =
        let high : 2048 ≤ c = grind (arith, nat_tests) in
        let low : c < 65536 = grind (arith, nat_tests) in
        let is : first ≡ 224 + c / 4096 = cc in
        record {
          one = λ h. absurd (omega arith);
          two = λ h k. absurd (omega arith);
          three = λ h k. is;
          four = λ h. absurd (omega arith);
        }
    go false false false a b d f =
        let high : 65536 ≤ c = grind (arith, nat_tests) in
        let is : first ≡ 240 + c / 262144 = cc in
        record {
          one = λ h. absurd (omega arith);
          two = λ h k. absurd (omega arith);
          three = λ h k. absurd (omega arith);
          four = λ h. is;
        }

-- the four sizes
pub sizes : (c : ℕ) → (c < 128) ⊎ (((128 ≤ c) × (c < 2048)) ⊎ (((2048 ≤ c) × (c < 65536)) ⊎ (65536 ≤ c)))
sizes c = elim (cases_lt c 128) [
  | inl a ↦ inl a
  | inr a ↦ elim (cases_lt c 2048) [
    | inl b ↦ inr (inl (a, b))
    | inr b ↦ elim (cases_lt c 65536) [
      | inl d ↦ inr (inr (inl (b, d)))
      | inr d ↦ inr (inr (inr d))
    ]
  ]
]

pub no_lead : (c first : ℕ) → Lead c first → 128 ≤ first → first < 192 → ⊥
no_lead c first l low high = elim (sizes c) [
  | inl a ↦ omega (arith, l.one a)
  | inr o ↦ elim o [
    | inl a ↦ omega (arith, l.two a.0 a.1)
    | inr q ↦ elim q [ inl a ↦ omega (arith, l.three a.0 a.1) | inr a ↦ omega (arith, l.four a) ]
  ]
]

pub two_lead : (c first : ℕ) → Lead c first → 192 ≤ first → first < 224
    → ((first - 192) * 64 ≤ c) × (c < (first - 191) * 64)
two_lead c first l low high = elim (sizes c) [
  | inl a ↦ absurd (omega (arith, l.one a))
  | inr o ↦ elim o [
    | inl a ↦ (omega (arith, l.two a.0 a.1), omega (arith, l.two a.0 a.1))
    | inr q ↦ elim q [ inl a ↦ absurd (omega (arith, l.three a.0 a.1)) | inr a ↦ absurd (omega (arith, l.four a)) ]
  ]
]

pub three_lead : (c first : ℕ) → Lead c first → 224 ≤ first → first < 240
    → ((first - 224) * 4096 ≤ c) × (c < (first - 223) * 4096)
three_lead c first l low high = elim (sizes c) [
  | inl a ↦ absurd (omega (arith, l.one a))
  | inr o ↦ elim o [
    | inl a ↦ absurd (omega (arith, l.two a.0 a.1))
    | inr q ↦ elim q [
      | inl a ↦ (omega (arith, l.three a.0 a.1), omega (arith, l.three a.0 a.1))
      | inr a ↦ absurd (omega (arith, l.four a))
    ]
  ]
]

pub four_lead : (c first : ℕ) → Lead c first → 240 ≤ first
    → ((first - 240) * 262144 ≤ c) × (c < (first - 239) * 262144)
four_lead c first l low = elim (sizes c) [
  | inl a ↦ absurd (omega (arith, l.one a))
  | inr o ↦ elim o [
    | inl a ↦ absurd (omega (arith, l.two a.0 a.1))
    | inr q ↦ elim q [
      | inl a ↦ absurd (omega (arith, l.three a.0 a.1))
      | inr a ↦ (omega (arith, l.four a), omega (arith, l.four a))
    ]
  ]
]

-- ---- fronts of letters

pub encode-some : (c : ℕ) → 0 < length (encode_utf8 c)
encode-some c = let w = len_utf8_bounds c in omega (arith, length-encode c)

-- two texts that go on alike: one is a front of the other
pub one_front : (a b r t : List ℕ) → a ++ r ≡ b ++ t
    → ((z : List ℕ) × (b ≡ a ++ z)) ⊎ ((z : List ℕ) × ((a ≡ b ++ z) × (t ≡ z ++ r)))
one_front [] b r t e = inl (b, refl)
one_front (x ∷ a) [] r t e = inr (x ∷ a, (refl, sym e))
one_front (x ∷ a) (y ∷ b) r t e =
    let heads : x ≡ y = cc in
    let tails : a ++ r ≡ b ++ t = cc in
    elim (one_front a b r t tails) [
      | inl z ↦ inl (z.0, (let same : b ≡ a ++ z.0 = z.1 in cc))
      | inr z ↦ inr (z.0, ((let same : a ≡ b ++ z.0 = z.1.0 in cc), z.1.1))
    ]

-- where a text doesn't begin with a letter, a front of it begins one where it is the front of one
pub front_of_letter : (behind_letters : Bool) (s : List ℕ) (n : ℕ) → ((c : ℕ) → BeginsLetter behind_letters c s → ⊥)
    → BeginsSome (BeginsLetter behind_letters) (take n s) → (c : ℕ) × IsLetterOf behind_letters (take n s) c
front_of_letter behind_letters s n none b =
    elim (one_front (take n s) (encode_utf8 b.0) b.1.0 b.1.1.0 b.1.1.1) [
      | inl z ↦ (b.0, (z.0, z.1, b.1.1.2))
      | inr z ↦
          let whole : s ≡ encode_utf8 b.0 ++ (z.0 ++ drop n s) =
          sym (take-append-drop n s) ∙ (ap (λ f. f ++ drop n s) z.1.0 ∙ append_assoc (encode_utf8 b.0) z.0 (drop n s)) in
          absurd (none b.0 (z.0 ++ drop n s, whole, b.1.1.2))
    ]

pub letter_front : (behind_letters : Bool) (f : List ℕ) (c : ℕ) → IsLetterOf behind_letters f c
    → BeginsSome (BeginsLetter behind_letters) f
letter_front behind_letters f c h = (c, (h.0, ([], sym h.1 ∙ sym (append-nil (encode_utf8 c)), h.2)))

-- `a`, and fronts of texts that begin with no letter

pub letter_a : (behind_letters : Bool) → IsLetter (letter_test behind_letters) 97
letter_a true = record { scalar = refl; passes = goes }
  where
    goes : continues_word 97 ≡ true
    goes = ap (λ v. v || eqb 97 95 || eqb 97 36) (is_xid_continue-ascii 97 (omega arith))
letter_a false = record { scalar = refl; passes = starts }
  where
    starts : begins_word 97 ≡ true
    starts = ap (λ v. v || eqb 97 95 || eqb 97 36) (is_xid_start-ascii 97 (omega arith))

pub some_letter : (behind_letters : Bool) → BeginsSome (BeginsLetter behind_letters) []
some_letter behind_letters =
    (97, (97 ∷ [], ([], ap (λ x. x ++ []) (sym (encode_ascii 97 (omega arith))), letter_a behind_letters)))

pub first_taken : (s : List ℕ) (n : ℕ) → n < length s → (more : List ℕ) × (take (n + 1) s ≡ get_or s 0 0 ∷ more)
first_taken [] n lt = absurd (omega arith)
first_taken (b ∷ s) n lt = (take n s, rw add-one refl)

pub none_begun : (behind_letters : Bool) (s : List ℕ) → ((c : ℕ) → BeginsLetter behind_letters c s → ⊥) → length s ≤ 0
    → IsLongestFront (BeginsLetter behind_letters) s 0
none_begun behind_letters s none empty = record {
  within = omega arith;
  begins = some_letter behind_letters;
  ends = λ lt b. absurd (omega arith);
}

one_taken : (t : List ℕ) → 0 < length t → take 1 t ≡ get_or t 0 0 ∷ []
one_taken [] lt = absurd (omega arith)
one_taken (b ∷ t) lt = refl

pub none_ascii : (behind_letters : Bool) (s : List ℕ) → ((c : ℕ) → BeginsLetter behind_letters c s → ⊥) → get_or s 0 0 < 128
    → IsLongestFront (BeginsLetter behind_letters) s 0
none_ascii behind_letters s none low = record {
  within = omega arith;
  begins = some_letter behind_letters;
  ends = λ lt b. ends lt (front_of_letter behind_letters s 1 none b);
}
  where
    ends : 0 < length s → ((c : ℕ) × IsLetterOf behind_letters (take 1 s) c) → ⊥
    ends lt letter =
        let f = first_taken s 0 lt in
        let begins : encode_utf8 letter.0 ≡ get_or s 0 0 ∷ (f.0 ++ letter.1.0) = letter.1.1 ∙ ap (λ x. x ++ letter.1.0) f.1 in
        let same : letter.0 ≡ get_or s 0 0 =
        char_from_byte (encode_utf8 letter.0) [] letter.0 (sym (append-nil (encode_utf8 letter.0)))
        (subst (λ x. get_or x 0 0 < 128) (sym begins) low) (encode-some letter.0)
        ∙ ap (λ x. get_or x 0 0) begins in
        let one : encode_utf8 letter.0 ≡ take 1 s =
        encode_ascii letter.0 (subst (λ x. x < 128) (sym same) low) ∙ (ap (λ x. x ∷ []) same ∙ sym (one_taken s lt)) in
        none letter.0 (drop 1 s, sym (take-append-drop 1 s) ∙ ap (λ x. x ++ drop 1 s) (sym one), letter.1.2)

-- ---- decoding

pub decoded_letter : (behind_letters : Bool) (s : List ℕ) (c n : ℕ) → (decoded s).char ≡ Some c → n ≡ (decoded s).size
    → letter_test behind_letters c ≡ true
    → (x : ℕ) × (s ≡ encode_utf8 x ++ drop n s) × (length (encode_utf8 x) ≡ n) × IsLetter (letter_test behind_letters) x
decoded_letter behind_letters s c n is size passes =
    let w = SpellsChar-decoded s c is in (
      c,
      w.bytes ∙ ap (λ k. encode_utf8 c ++ drop k s) (sym size),
      w.width ∙ sym size,
      record { scalar = w.scalar; passes = passes },
    )

pub other_char : (behind_letters : Bool) (s : List ℕ) (c : ℕ) → (decoded s).char ≡ Some c → letter_test behind_letters c ≡ false
    → (d : ℕ) → BeginsLetter behind_letters d s → ⊥
other_char behind_letters s c is fails d letter =
    let w = SpellsChar-decoded s c is in
    let same : d ≡ c = (encode_same d c letter.0 (drop (decoded s).size s) (sym letter.1 ∙ w.bytes)).0 in
    (let f : true ≡ false = sym letter.2.passes ∙ (ap (letter_test behind_letters) same ∙ fails) in cc)

pub no_char : (behind_letters : Bool) (s : List ℕ) → (decoded s).char ≡ None → (d : ℕ) → BeginsLetter behind_letters d s → ⊥
no_char behind_letters s is d letter =
    let found : (decoded s).char ≡ Some d =
    ap (λ x. (decoded x).char) letter.1 ∙ ap (λ (x : Decoded). x.char) (decoded-encode d letter.0 letter.2.scalar) in
    (let f : Some d ≡ None = sym found ∙ is in cc)
