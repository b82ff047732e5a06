-- Words, character by character.
use Rattle.std.proofs.Common.{◌≡◌, ℕ, ◌+◌, ◌-◌, ◌<◌, ◌≤◌, inl, inr, Bool, true, false, cond, eqb, ◌||◌, List, [], ◌∷◌, ◌++◌, length, take, drop, get_or, Some, None, refl, sym, ◌∙◌, ap, subst, arith, append_assoc}
use Rattle.std.proofs.lemmas.Bool.{cases_lt}
use Rattle.std.proofs.lemmas.Bool.Decides.{nat_tests}
use Rattle.std.proofs.lemmas.List.{drop_more, take_at, take-append-drop, append-nil, take_rest, length-append, length-drop, length-take-le, drop-drop}
use Rattle.std.proofs.Math.Seq.{take-add, take-append-add}
use Rattle.std.proofs.Math.Utf8.{low_scalar}
use Rattle.std.proofs.lemmas.Str.{encode_same, length-encode, len_utf8_bounds, encode_ascii, char_from_byte, byte_from_char, encodes-append}
use Rattle.std.specs.Char.{IsScalar, encode_utf8}
use Rattle.std.specs.Str.{encode_utf8_all}
use Rattle.bstr.specs.Utf8.{decoded, Decoded}
use Rattle.bstr.proofs.lemmas.SoundLemmas.{SpellsChar-decoded}
use Rattle.bstr.proofs.lemmas.EncodeLemmas.{decoded-encode}
use Rattle.unicode_ident.specs.Ident.{is_xid_start, is_xid_continue}
use Rattle.java_lex.specs.Words.{IsWord, IsLetter, AllContinue, begins_word, continues_word}
use Rattle.java_lex.specs.Scanning.{IsFirstSize, IsWordSize}

true-not_false : (v : Bool) → v ≡ true → v ≡ false → ⊥
true-not_false v e f = let g : true ≡ false = sym e ∙ f in cc

some-not_none : (d : ℕ) → Some d ≡ None → ⊥
some-not_none d e = cc

low-scalar : (b : ℕ) → b < 128 → IsScalar b
low-scalar b h = low_scalar b (omega arith)

all-push : (cs : List ℕ) (c : ℕ) → AllContinue cs → IsLetter continues_word c → AllContinue (cs ++ c ∷ [])
all-push [] c h letter = (letter, tt)
all-push (d ∷ cs) c h letter = (h.0, all-push cs c h.1 letter)

-- characters that go on with a word, and nothing else
pub record AreParts (s : List ℕ) : Type 0 where
  pub chars : List ℕ
  pub is : s ≡ encode_utf8_all chars
  pub goes : AllContinue chars

-- The first `at` bytes are a word, and `size` is of the character that goes on with it, or 0.
pub record IsGrown (s : List ℕ) (at size : ℕ) : Type 0 where
  pub some : 0 < at
  pub inside : at ≤ length s
  pub word : IsWord (take at s)
  pub rest : (m : ℕ) → at ≤ m → IsWord (take m s) → AreParts (take (m - at) (drop at s))
  pub next : IsFirstSize continues_word (drop at s) size

-- ---- the first character

pub encode-some : (c : ℕ) → 0 < length (encode_utf8 c)
encode-some c = let w = len_utf8_bounds c in omega (arith, length-encode c)

not-empty : (s rest : List ℕ) (c : ℕ) → length s ≤ 0 → s ≡ encode_utf8 c ++ rest → ⊥
not-empty s rest c none e =
    let w = encode-some c in
    omega (arith, ap length e, length-append (encode_utf8 c) rest)

pub first-empty : (p : ℕ → Bool) (s : List ℕ) → length s ≤ 0 → IsFirstSize p s 0
first-empty p s h = record { some = λ z. absurd (omega arith); none = λ z c rest e l. not-empty s rest c h e }

pub wide-some : (p : ℕ → Bool) (s : List ℕ) (c n : ℕ) → (decoded s).char ≡ Some c → n ≡ (decoded s).size → p c ≡ true → IsFirstSize p s n
wide-some p s c n is size passes =
    let w = SpellsChar-decoded s c is in
    let width : length (encode_utf8 c) ≡ n = w.width ∙ sym size in
    let bytes : s ≡ encode_utf8 c ++ drop n s = w.bytes ∙ ap (λ k. encode_utf8 c ++ drop k s) (sym size) in
    record {
      some = λ z. (c, bytes, width, record { scalar = w.scalar; passes = passes });
      none = λ z. absurd (let v = encode-some c in omega arith);
    }

pub wide-other : (p : ℕ → Bool) (s : List ℕ) (c : ℕ) → (decoded s).char ≡ Some c → p c ≡ false → IsFirstSize p s 0
wide-other p s c is fails =
    let w = SpellsChar-decoded s c is in
    record {
      some = λ z. absurd (omega arith);
      none = λ z d rest e letter.
          let same : d ≡ c = (encode_same d c rest (drop (decoded s).size s) (sym e ∙ w.bytes)).0 in
          true-not_false (p d) letter.passes (ap (λ x. p x) same ∙ fails);
    }

pub wide-none : (p : ℕ → Bool) (s : List ℕ) → (decoded s).char ≡ None → IsFirstSize p s 0
wide-none p s is = record {
  some = λ z. absurd (omega arith);
  none = λ z d rest e letter.
      let found : (decoded s).char ≡ Some d = ap (λ x. (decoded x).char) e ∙ ap (λ (x : Decoded). x.char) (decoded-encode d rest letter.scalar) in
      some-not_none d (sym found ∙ is);
}

-- a character whose first byte is past ASCII is past ASCII
pub wide-char : (s : List ℕ) (c : ℕ) → (decoded s).char ≡ Some c → 128 ≤ get_or s 0 0 → 128 ≤ c
wide-char s c is first = elim (cases_lt c 128) [
  | inl low ↦ absurd (let w = SpellsChar-decoded s c is in let e = byte_from_char s (drop (decoded s).size s) c w.bytes low in omega arith)
  | inr high ↦ high
]

begins-either : (x : Bool) (c : ℕ) → 128 ≤ c → (x || eqb c 95 || eqb c 36) ≡ x
begins-either true c h = refl
begins-either false c h = grind (arith, nat_tests)

pub wide-begins : (c : ℕ) → 128 ≤ c → begins_word c ≡ is_xid_start c
wide-begins c h = begins-either (is_xid_start c) c h

pub wide-goes : (c : ℕ) → 128 ≤ c → continues_word c ≡ is_xid_continue c
wide-goes c h = begins-either (is_xid_continue c) c h

pub ascii-first : (p : ℕ → Bool) (s : List ℕ) (b n : ℕ) → 0 < length s → b ≡ get_or s 0 0 → b < 128 → n ≡ cond (p b) 1 0 → IsFirstSize p s n
ascii-first p s b n some is low size = go (p b) refl
  where
    whole : s ≡ b ∷ drop 1 s
    whole = drop_more s 0 0 some ∙ ap (λ x. x ∷ drop 1 s) (sym is)

    one : encode_utf8 b ≡ b ∷ []
    one = encode_ascii b low

    go : (v : Bool) → p b ≡ v → IsFirstSize p s n
    go true e =
        let n_is : n ≡ 1 = size ∙ ap (λ v. cond v 1 0) e in
        record {
          some = λ z. (
            b,
            whole ∙ ap (λ x. x ++ drop 1 s) (sym one) ∙ ap (λ k. encode_utf8 b ++ drop k s) (sym n_is),
            ap length one ∙ sym n_is,
            record { scalar = low-scalar b low; passes = e },
          );
          none = λ z. absurd (omega arith);
        }
    go false e =
        let n_is : n ≡ 0 = size ∙ ap (λ v. cond v 1 0) e in
        record {
          some = λ z. absurd (omega arith);
          none = λ z c rest f letter.
              let same : c ≡ b = char_from_byte s rest c f (omega arith) some ∙ sym is in
              true-not_false (p c) letter.passes (ap (λ x. p x) same ∙ e);
        }

-- ---- words

-- a longer word
word-push : (s : List ℕ) (c : ℕ) → IsWord s → IsLetter continues_word c → IsWord (s ++ encode_utf8 c)
word-push s c w letter = record {
  first = w.first;
  others = w.others ++ c ∷ [];
  is = ap (λ x. x ++ encode_utf8 c) w.is ∙ join;
  begins = w.begins;
  goes = all-push w.others c w.goes letter;
}
  where
    one : encode_utf8_all (c ∷ []) ≡ encode_utf8 c
    one = append-nil (encode_utf8 c)

    join : encode_utf8_all (w.first ∷ w.others) ++ encode_utf8 c ≡ encode_utf8_all (w.first ∷ (w.others ++ c ∷ []))
    join = ap (λ x. encode_utf8_all (w.first ∷ w.others) ++ x) (sym one) ∙ sym (encodes-append (w.first ∷ w.others) (c ∷ []))

-- where a text has a front of so many bytes
front-of : (s x rest : List ℕ) (n : ℕ) → s ≡ x ++ rest → n ≡ length x → take n s ≡ x
front-of s x rest n e size = ap (λ t. take n t) e ∙ take_at x rest n (sym size)

long-enough : (s x rest : List ℕ) (n : ℕ) → s ≡ x ++ rest → length x ≡ n → n ≤ length s
long-enough s x rest n e size = omega (arith, ap length e, length-append x rest)

sum-is : (i m : ℕ) → i ≤ m → m ≡ i + (m - i)
sum-is i m h = omega arith

-- a front that begins with a character is that character and a front of the rest
cut-front : (s : List ℕ) (c z m : ℕ) → s ≡ encode_utf8 c ++ drop z s → length (encode_utf8 c) ≡ z → z ≤ m
    → take m s ≡ encode_utf8 c ++ take (m - z) (drop z s)
cut-front s c z m whole width h =
    ap (λ t. take m t) whole ∙ ap (λ n. take n (encode_utf8 c ++ drop z s)) (sum-is z m h ∙ ap (λ k. k + (m - z)) (sym width))
    ∙ take-append-add (encode_utf8 c) (drop z s) (m - z)

peel : (s : List ℕ) (c z m d : ℕ) (ds : List ℕ) → s ≡ encode_utf8 c ++ drop z s → length (encode_utf8 c) ≡ z → z ≤ m
    → take m s ≡ encode_utf8_all (d ∷ ds) → take (m - z) (drop z s) ≡ encode_utf8_all ds
peel s c z m d ds whole width h e =
    (encode_same c d (take (m - z) (drop z s)) (encode_utf8_all ds) (sym (cut-front s c z m whole width h) ∙ e)).1

-- a text that has such a front begins with its first character
pub begins-with : (s : List ℕ) (m d : ℕ) (ds : List ℕ) → take m s ≡ encode_utf8_all (d ∷ ds) → s ≡ encode_utf8 d ++ (encode_utf8_all ds ++ drop m s)
begins-with s m d ds e =
    sym (take-append-drop m s) ∙ ap (λ x. x ++ drop m s) e ∙ append_assoc (encode_utf8 d) (encode_utf8_all ds) (drop m s)

pub grown-init : (s : List ℕ) (at size : ℕ) → IsFirstSize begins_word s at → (at ≡ 0 → ⊥) → IsFirstSize continues_word (drop at s) size → IsGrown s at size
grown-init s at size first not_zero next =
    let some : 0 < at = omega arith in
    let w = first.some some in
    let c = w.0 in
    let front : take at s ≡ encode_utf8 c = front-of s (encode_utf8 c) (drop at s) at w.1 (sym w.2) in
    record {
      some = some;
      inside = long-enough s (encode_utf8 c) (drop at s) at w.1 w.2;
      word = record { first = c; others = []; is = front ∙ sym (append-nil (encode_utf8 c)); begins = w.3; goes = tt };
      rest = λ m h v. record { chars = v.others; is = peel s c at m v.first v.others w.1 w.2 h v.is; goes = v.goes };
      next = next;
    }

weaker : (a b : ℕ) → a < b → a ≤ b
weaker a b h = omega arith

less-first : (a b m : ℕ) → a + b ≤ m → a ≤ m
less-first a b m h = omega arith

minus-minus : (m a b : ℕ) → (m - a) - b ≡ m - (a + b)
minus-minus m a b = omega arith

less-minus : (a b m : ℕ) → a + b ≤ m → b ≤ m - a
less-minus a b m h = omega arith

parts-after : (r : List ℕ) (c z m : ℕ) → r ≡ encode_utf8 c ++ drop z r → length (encode_utf8 c) ≡ z → z ≤ m → AreParts (take m r) → AreParts (take (m - z) (drop z r))
parts-after r c z m whole width h p = go p.chars p.is p.goes
  where
    go : (chars : List ℕ) → take m r ≡ encode_utf8_all chars → AllContinue chars → AreParts (take (m - z) (drop z r))
    go [] e goes = absurd (let w = encode-some c in
        let f : [] ≡ encode_utf8 c ++ take (m - z) (drop z r) = sym e ∙ cut-front r c z m whole width h in
        omega (arith, ap length f, length-append (encode_utf8 c) (take (m - z) (drop z r))))
    go (d ∷ ds) e goes = record { chars = ds; is = peel r c z m d ds whole width h e; goes = goes.1 }

pub grown-more : (s : List ℕ) (at size next : ℕ) → IsGrown s at size → 0 < size → IsFirstSize continues_word (drop (at + size) s) next → IsGrown s (at + size) next
grown-more s at size next h some first =
    let w = h.next.some some in
    let c = w.0 in
    let front : take size (drop at s) ≡ encode_utf8 c = front-of (drop at s) (encode_utf8 c) (drop size (drop at s)) size w.1 (sym w.2) in
    let whole : take (at + size) s ≡ take at s ++ encode_utf8 c = take-add at size s ∙ ap (λ x. take at s ++ x) front in
    let long : size ≤ length (drop at s) = long-enough (drop at s) (encode_utf8 c) (drop size (drop at s)) size w.1 w.2 in
    record {
      some = let a = h.some in omega arith;
      inside = let a = h.inside in omega (arith, length-drop at s);
      word = subst (λ t. IsWord t) (sym whole) (word-push (take at s) c h.word w.3);
      rest = λ m b v.
          let parts = parts-after (drop at s) c size (m - at) w.1 w.2 (less-minus at size m b) (h.rest m (less-first at size m b) v) in
          subst (λ k. AreParts (take k (drop (at + size) s))) (minus-minus m at size)
          (subst (λ t. AreParts (take ((m - at) - size) t)) (drop-drop size at s) parts);
      next = first;
    }

pub grown-end : (s : List ℕ) (at size : ℕ) → IsGrown s at size → size ≤ 0 → IsWordSize s at
grown-end s at size h ends = record {
  inside = h.inside;
  some = λ z. h.word;
  longest = λ m low high v. let p = h.rest m (weaker at m low) v in go m low high p.chars p.is p.goes;
}
  where
    go : (m : ℕ) → at < m → m ≤ length s → (chars : List ℕ) → take (m - at) (drop at s) ≡ encode_utf8_all chars → AllContinue chars → ⊥
    go m low high [] e goes = omega (arith, ap length e, length-take-le (m - at) (drop at s) (omega (arith, length-drop at s)))
    go m low high (d ∷ ds) e goes =
        h.next.none (omega arith) d (encode_utf8_all ds ++ drop (m - at) (drop at s)) (begins-with (drop at s) (m - at) d ds e) goes.0

pub no-word : (s : List ℕ) (n : ℕ) → IsFirstSize begins_word s n → n ≡ 0 → IsWordSize s 0
no-word s n first zero_is = record {
  inside = omega arith;
  some = λ z. absurd (omega arith);
  longest = λ m low high v. first.none zero_is v.first (encode_utf8_all v.others ++ drop m s) (begins-with s m v.first v.others v.is) v.begins;
}

-- whole texts as the code cuts them
pub rest-first : (p : ℕ → Bool) (s : List ℕ) (at n : ℕ) → IsFirstSize p (take (length s - at) (drop at s)) n → IsFirstSize p (drop at s) n
rest-first p s at n h = subst (λ t. IsFirstSize p t n) (take_rest s at) h
