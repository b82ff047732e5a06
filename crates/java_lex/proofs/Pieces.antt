-- What stands next in a text.
use Rattle.std.proofs.Common.{◌≡◌, ℕ, suc, zero, ◌<◌, ◌≤◌, inl, inr, Bool, true, false, cond, not, eqb, ◌&&◌, ◌||◌, List, [], ◌∷◌, ◌++◌, length, take, drop, get_or, refl, sym, ◌∙◌, ap, subst, arith}
use Rattle.std.proofs.lemmas.Bool.{cases_lt}
use Rattle.std.proofs.lemmas.Bool.Decides.{nat_tests}
use Rattle.std.proofs.lemmas.List.{take_all, length-append, length-take}
use Rattle.std.proofs.Math.Seq.{take-length}
use Rattle.std.proofs.lemmas.Str.{char_from_byte}
use Rattle.std.specs.Char.{encode_utf8}
use Rattle.std.specs.Str.{encode_utf8_all, bytes_eq}
use Rattle.rw_base.specs.declared.place.Cause.TheVariants.{BadLeaf}
use Rattle.java_lex.specs.declared.automaton.Found.{Found}
use Rattle.java_lex.specs.declared.word.TheConstants.{BEGINS}
use Rattle.java_lex.specs.Literals.{literal_refused, comment_refused}
use Rattle.java_lex.specs.Kinds.{kinds, Fits, IsLeaf, word, other, is_literal}
use Rattle.java_lex.specs.Words.{IsWord, IsLetter, begins_word, keywords, class_among, word_class}
use Rattle.java_lex.specs.Escapes.{IsFirstRefused}
use Rattle.java_lex.specs.Blanks.{IsOpenComment, IsComment}
use Rattle.java_lex.specs.Leaves.{IsLongest, BeginsNone, CanGoOn, IsLeafPlace, IsNextLeaf, IsBad, in_comment, in_literal, open_literal, open_comment, no_leaf}
use Rattle.java_lex.specs.Scanning.{IsWordSize, IsLongestOf, IsEscape, escape_of, IsPiece, IsOpenPiece, known, next_state}
use Rattle.java_lex.specs.declared.piece.Piece.{Piece}
use Rattle.java_lex.specs.declared.piece.Piece.TheVariants as piece
use Rattle.java_lex.proofs.Derivatives.{step}
use Rattle.java_lex.proofs.States.{all_from, meaning, dead_is, leaf_is}
use Rattle.java_lex.proofs.Runs.{at_all, step-to, next-right}
use Rattle.java_lex.proofs.Best.{start-empty}
use Rattle.java_lex.proofs.Letters.{begins-table}
use Rattle.java_lex.proofs.Wording.{begins-with, encode-some}
use Rattle.java_lex.proofs.Following.{either-true}
use Rattle.java_lex.proofs.Escaping.{stands-backslash, escape-begins}

more-than : (n m : ℕ) → n < m → 0 < m
more-than n m h = omega arith

less-of : (z n m : ℕ) → z < m → n ≤ 0 → n < m
less-of z n m h k = omega arith

-- ---- words are no literals

abbrev all_plain : List (List ℕ × ℕ) → Bool
all_plain [] = true
all_plain (entry ∷ rest) = not (is_literal entry.1) && all_plain rest

plain_right : all_plain keywords ≡ true
unfolding keywords
plain_right = refl

not-false : (v : Bool) → not v ≡ true → v ≡ false
not-false true e = sym e
not-false false e = refl

plain-first : (v : Bool) (entry : List ℕ × ℕ) (rest : ℕ) → is_literal entry.1 ≡ false → is_literal rest ≡ false → is_literal (cond v entry.1 rest) ≡ false
plain-first true entry rest one other_one = one
plain-first false entry rest one other_one = other_one

plain-among : (entries : List (List ℕ × ℕ)) (w : List ℕ) → all_plain entries ≡ true → is_literal (class_among entries w) ≡ false
plain-among [] w e = refl
plain-among (entry ∷ rest) w e =
    let v = either-true (not (is_literal entry.1)) (all_plain rest) e in
    plain-first (bytes_eq entry.0 w) entry (class_among rest w) (not-false (is_literal entry.1) v.0) (plain-among rest w v.1)

word-plain : (w : List ℕ) → is_literal (word_class w) ≡ false
unfolding word_class
word-plain w = plain-among keywords w plain_right

-- ---- no other leaf begins as a word does

low_right : all_from 128 0 (λ b. eqb (get_or BEGINS b 0) 0 || eqb (next_state 1 b) 0) ≡ true
unfolding next_state
low_right = refl

high_right : all_from 128 128 (λ b. eqb (next_state 1 b) 0) ≡ true
unfolding next_state
high_right = refl

eqb-is : (m n : ℕ) → eqb m n ≡ true → m ≡ n
eqb-is m n e = grind (arith, nat_tests)

or-false : (v w : Bool) → (v || w) ≡ true → v ≡ false → w ≡ true
or-false true w e f = absurd (let g : true ≡ false = f in cc)
or-false false w e f = e

high-dead : (b : ℕ) → 128 ≤ b → b < 256 → next_state 1 b ≡ 0
high-dead b low high = eqb-is (next_state 1 b) 0 (at_all 128 128 (λ k. eqb (next_state 1 k) 0) high_right b low high)

low-dead : (b : ℕ) → b < 128 → begins_word b ≡ true → next_state 1 b ≡ 0
low-dead b h begins =
    let one : get_or BEGINS b 0 ≡ 1 = begins-table b h ∙ ap (λ v. cond v 1 0) begins in
    let not_zero : eqb (get_or BEGINS b 0) 0 ≡ false = grind (arith, nat_tests) in
    eqb-is (next_state 1 b) 0
    (or-false (eqb (get_or BEGINS b 0) 0) _ (at_all 128 0 (λ k. eqb (get_or BEGINS k 0) 0 || eqb (next_state 1 k) 0) low_right b (omega arith) h) not_zero)

word-text : (s : List ℕ) (n : ℕ) → IsWord (take n s) → (c : ℕ) × (rest : List ℕ) × (s ≡ encode_utf8 c ++ rest) × IsLetter begins_word c
word-text s n w = (w.first, encode_utf8_all w.others ++ drop n s, begins-with s n w.first w.others w.is, w.begins)

pub word-dead : (s : List ℕ) (n : ℕ) → 0 < length s → get_or s 0 0 < 256 → IsWord (take n s) → next_state 1 (get_or s 0 0) ≡ 0
word-dead s n some fits w = elim (cases_lt (get_or s 0 0) 128) [
  | inl low ↦
      let v = word-text s n w in
      let same : v.0 ≡ get_or s 0 0 = char_from_byte s v.1 v.0 v.2 low some in
      low-dead (get_or s 0 0) low (sym (ap (λ c. begins_word c) same) ∙ v.3.passes)
  | inr high ↦ high-dead (get_or s 0 0) high fits
]

none-follows : (b k : ℕ) (t : List ℕ) → b < 256 → next_state 1 b ≡ 0 → Fits k kinds (b ∷ t) → ⊥
none-follows b k t fits dead h =
    let nothing_left : step b (known 1) ≡ [] =
    ap (λ x. step b x) (sym leaf_is) ∙ next-right 1 b (omega arith) fits ∙ ap (λ q. meaning q) dead ∙ dead_is in
    subst (λ x. Fits k x t) nothing_left (step-to b k (known 1) t h)

pub none-other : (s : List ℕ) (m k : ℕ) → 0 < length s → 0 < m → get_or s 0 0 < 256 → next_state 1 (get_or s 0 0) ≡ 0 → Fits k kinds (take m s) → ⊥
none-other [] m k some more fits dead h = omega arith
none-other (b ∷ t) zero k some more fits dead h = omega arith
none-other (b ∷ t) (suc m) k some more fits dead h = none-follows b k (take m t) fits dead h

-- ---- the longest leaf

no-longer-word : (s : List ℕ) (n m k : ℕ) → IsWordSize s n → n < m → m ≤ length s → 0 < length s → get_or s 0 0 < 256 → next_state 1 (get_or s 0 0) ≡ 0
    → IsLeaf k (take m s) → ⊥
no-longer-word s n m k size low high some fits dead (word w is) = size.longest m low high w
no-longer-word s n m k size low high some fits dead (other h) = none-other s m k some (more-than n m low) fits dead h

no-longer-other : (s : List ℕ) (n m k : ℕ) (r : Found) → IsWordSize s n → n ≤ 0 → IsLongestOf 1 s r → r.size < m → m ≤ length s → IsLeaf k (take m s) → ⊥
no-longer-other s n m k r size none found low high (word w is) = size.longest m (less-of r.size n m low none) high w
no-longer-other s n m k r size none found low high (other h) = found.longest m k low high h

pub no-empty-word : IsWord [] → ⊥
no-empty-word w =
    let v = encode-some w.first in
    omega (arith, ap length w.is, length-append (encode_utf8 w.first) (encode_utf8_all w.others))

no-word_at : (s : List ℕ) (n m : ℕ) → IsWordSize s n → n ≤ 0 → IsWord (take m s) → ⊥
no-word_at s n m size none w = elim (cases_lt (length s) m) [
  | inr within ↦ elim (cases_lt n m) [
    | inl more ↦ size.longest m more within w
    | inr zero_m ↦ let e : m ≡ 0 = omega arith in no-empty-word (subst (λ k. IsWord (take k s)) e w)
  ]
  | inl beyond ↦
      let whole : IsWord (take (length s) s) = subst (λ t. IsWord t) (take_all m s (omega arith) ∙ sym (take-length s)) w in
      elim (cases_lt n (length s)) [
        | inl more ↦ size.longest (length s) more (omega arith) whole
        | inr zero_s ↦ let e : length s ≡ 0 = omega arith in no-empty-word (subst (λ k. IsWord (take k s)) e whole)
      ]
]

pub word-leaf : (s : List ℕ) (n class : ℕ) → IsLeafPlace s → get_or s 0 0 < 256 → IsWordSize s n → 0 < n → class ≡ word_class (take n s)
    → IsNextLeaf s class n × (0 < n)
word-leaf s n class place fits size some is =
    let w = size.some some in
    let dead = word-dead s n place.some fits w in (
      record {
        place = place;
        longest = record {
          is = word w is;
          inside = size.inside;
          longest = λ m k low high leaf. no-longer-word s n m k size low high place.some fits dead leaf;
        };
        accepted = λ e. absurd (let f : true ≡ false = sym e ∙ ap (λ c. is_literal c) is ∙ word-plain (take n s) in cc);
      },
      some,
    )

pub other-longest : (s : List ℕ) (n : ℕ) (r : Found) → IsWordSize s n → n ≤ 0 → IsLongestOf 1 s r → (r.class ≡ 0 → ⊥) → IsLongest s r.class r.size
other-longest s n r size none found some = record {
  is = other (found.is some);
  inside = found.inside;
  longest = λ m k low high leaf. no-longer-other s n m k r size none found low high leaf;
}

pub other-some : (s : List ℕ) (r : Found) → IsLongestOf 1 s r → (r.class ≡ 0 → ⊥) → 0 < r.size
other-some s r found some = elim (cases_lt 0 r.size) [
  | inl more ↦ more
  | inr none ↦
      let zero_size : r.size ≡ 0 = omega arith in
      absurd (start-empty 1 r.class (inl refl) (subst (λ n. Fits r.class (known 1) (take n s)) zero_size (found.is some)))
]

pub begins-none : (s : List ℕ) (n : ℕ) (r : Found) → IsWordSize s n → n ≤ 0 → IsLongestOf 1 s r → r.class ≡ 0 → BeginsNone s
begins-none s n r size none found zero_class m k (word w is) = no-word_at s n m size none w
begins-none s n r size none found zero_class m k (other h) = found.none zero_class m k h

pub other-leaf : (s : List ℕ) (n : ℕ) (r : Found) → IsLeafPlace s → IsWordSize s n → n ≤ 0 → IsLongestOf 1 s r → (r.class ≡ 0 → ⊥)
    → is_literal r.class ≡ false → IsNextLeaf s r.class r.size × (0 < r.size)
other-leaf s n r place size none found some plain = (
  record {
    place = place;
    longest = other-longest s n r size none found some;
    accepted = λ e. absurd (let f : true ≡ false = sym e ∙ plain in cc);
  },
  other-some s r found some,
)

-- ---- bad places

length-front : (n : ℕ) (s : List ℕ) → length (take n s) ≤ length s
length-front n s = omega (arith, length-take n s)

less-to : (a b c : ℕ) → a < b → b ≤ c → a ≤ c
less-to a b c h k = omega arith

pub refused-inside : (start : ℕ) (s : List ℕ) (at : ℕ) → IsEscape start → IsFirstRefused (escape_of start) s at → at ≤ length s
refused-inside start s at h first =
    less-to at (length s) (length s) (stands-backslash (escape_of start) s at (escape-begins start h) first.stands).0 (omega arith)

pub refused-front : (start : ℕ) (s : List ℕ) (n at : ℕ) → IsEscape start → IsFirstRefused (escape_of start) (take n s) at → at ≤ length s
refused-front start s n at h first =
    less-to at (length (take n s)) (length s) (stands-backslash (escape_of start) (take n s) at (escape-begins start h) first.stands).0 (length-front n s)

pub bad-literal : (s : List ℕ) (class size at : ℕ) → IsLeafPlace s → IsLongest s class size → is_literal class ≡ true
    → IsFirstRefused literal_refused (take size s) at → (broken : Bool) → IsBad broken s at BadLeaf × (at ≤ length s)
bad-literal s class size at place longest is first broken =
    (in_literal class size place longest is first refl, refused-front 2 s size at (inl refl) first)

pub bad-comment : (s : List ℕ) (size at : ℕ) → IsComment s size → IsFirstRefused comment_refused (take size s) at
    → (broken : Bool) → IsBad broken s at BadLeaf × (at ≤ length s)
bad-comment s size at is first broken = (in_comment size is first refl, refused-front 3 s size at (inr refl) first)

pub bad-none : (broken : Bool) (s : List ℕ) → IsLeafPlace s → BeginsNone s → (CanGoOn s → ⊥) → IsBad broken s 0 BadLeaf × (0 ≤ length s)
bad-none broken s place none closed = (no_leaf place none closed refl refl, omega arith)

pub literal-piece : (broken : Bool) (s : List ℕ) (p : Piece) → IsLeafPlace s → BeginsNone s → CanGoOn s → IsOpenPiece broken literal_refused s p → IsPiece broken s p
literal-piece broken s piece.End place none go h = absurd h
literal-piece broken s (piece.Comment n) place none go h = absurd h
literal-piece broken s (piece.Leaf class n) place none go h = absurd h
literal-piece broken s (piece.Bad n cause) place none go h = (open_literal place none go h.0, h.1)

pub comment-piece : (broken : Bool) (s : List ℕ) (p : Piece) → IsOpenComment s → IsOpenPiece broken comment_refused s p → IsPiece broken s p
comment-piece broken s piece.End open_here h = absurd h
comment-piece broken s (piece.Comment n) open_here h = absurd h
comment-piece broken s (piece.Leaf class n) open_here h = absurd h
comment-piece broken s (piece.Bad n cause) open_here h = (open_comment open_here h.0, h.1)
