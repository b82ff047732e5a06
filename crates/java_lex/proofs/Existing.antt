-- Each file has leaves: at each place something stands next.
use Rattle.std.proofs.Common.{◌≡◌, ℕ, suc, zero, ◌+◌, ◌-◌, ◌<◌, ◌≤◌, ◌⊎◌, inl, inr, Bool, true, false, ◌&&◌, ◌||◌, eqb, List, [], ◌∷◌, length, take, drop, get_or, Option, Some, None, refl, sym, ◌∙◌, ap, subst, arith}
use Rattle.std.proofs.lemmas.Bool.{cases_lt}
use Rattle.std.proofs.lemmas.Bool.Decides.{nat_tests}
use Rattle.std.proofs.lemmas.List.{length-drop, get_or_past}
use Rattle.std.specs.Str.Lossy.{utf8_valid_len}
use Rattle.bstr.specs.Utf8.{decoded}
use Rattle.rw_base.specs.declared.tree.Leaf.{Leaf}
use Rattle.rw_base.specs.declared.place.Cause.{Cause}
use Rattle.rw_base.specs.declared.place.Cause.TheVariants.{NotUtf8, BadLeaf}
use Rattle.rw_base.specs.declared.leaves.Bad.{Bad}
use Rattle.rw_base.specs.Expressions.{Expression}
use Rattle.java_lex.specs.declared.automaton.Found.{Found}
use Rattle.java_lex.specs.Literals.{literal_refused, comment_refused}
use Rattle.java_lex.specs.Kinds.{Fits, is_literal}
use Rattle.java_lex.specs.Words.{begins_word, continues_word, word_class}
use Rattle.java_lex.specs.Escapes.{IsRefusedAt, IsFirstRefused, NoneRefused}
use Rattle.java_lex.specs.Blanks.{is_white, is_line_end, begins_line_comment, begins_block_comment, ClosesAt, IsComment, line, block}
use Rattle.rw_base.specs.Utf8.{utf8_front, is_broken, mark_size}
use Rattle.java_lex.specs.Leaves.{Cuts, passed, leaf, ended, stopped, IsBlank, white, comment, IsNextLeaf, IsLeafPlace, IsLongest, BeginsNone, IsBad, broken_end, in_comment, open_comment, in_literal, open_literal, no_leaf, IsBadOpen, never_closed, escaped, cut_off, end_leaf, AreJavaLeaves}
use Rattle.java_lex.specs.Scanning.{IsFirstSize, IsWordSize, IsStart, IsEscape, escape_of, IsLongestOf, next_state, state_class}
use Rattle.java_lex.specs.Laws.{AreBytes}
use Rattle.java_lex.proofs.Following.{either-true}
use Rattle.java_lex.proofs.Wording.{wide-some, wide-other, wide-none, IsGrown, grown-init, grown-more, grown-end, no-word}
use Rattle.java_lex.proofs.Best.{IsBest, best-init, best-longer, best-stays, best-dead, best-end}
use Rattle.java_lex.proofs.Escaping.{IsClear, clear-init, clear-plain, clear-pair, clear-end, escape-begins, escape-known}
use Rattle.java_lex.proofs.Pieces.{word-leaf, other-leaf, other-longest, begins-none}
use Rattle.java_lex.proofs.Tiling.{next-some, blank-inside}
use Rattle.java_lex.proofs.Steps.{bytes-drop, bytes-take}

-- ---- tests

decide : (m n : ℕ) → (m ≡ n) ⊎ (m ≡ n → ⊥)
decide m n = elim (cases_lt m n) [
  | inl less ↦ inr (λ e. omega arith)
  | inr least ↦ elim (cases_lt n m) [ inl more ↦ inr (λ e. omega arith) | inr most ↦ inl (omega arith) ]
]

-- the first number from `from` on, of n, that passes a test, or none
data Search (p : ℕ → Bool) (from n : ℕ) : Type 0 where
  found : (k : ℕ) → from ≤ k → k < from + n → p k ≡ true → ((j : ℕ) → from ≤ j → j < k → p j ≡ false) → Search p from n
  missing : ((j : ℕ) → from ≤ j → j < from + n → p j ≡ false) → Search p from n

first-here : (p : ℕ → Bool) (from j : ℕ) → p from ≡ false → from ≤ j → ((suc from ≤ j) → p j ≡ false) → p j ≡ false
first-here p from j e low later = elim (decide from j) [
  | inl same ↦ subst (λ i. p i ≡ false) same e
  | inr other ↦ later (omega arith)
]

search-further : (p : ℕ → Bool) (from n : ℕ) → p from ≡ false → Search p (suc from) n → Search p from (suc n)
search-further p from n e (found k low high is before) =
    found k (omega arith) (omega arith) is (λ j least less. first-here p from j e least (λ more. before j more less))
search-further p from n e (missing none) = missing (λ j low high. first-here p from j e low (λ more. none j more (omega arith)))

search-either : (p : ℕ → Bool) (from n : ℕ) → Search p (suc from) n → (v : Bool) → p from ≡ v → Search p from (suc n)
search-either p from n later true e = found from (omega arith) (omega arith) e (λ j low high. absurd (omega arith))
search-either p from n later false e = search-further p from n e later

search-first : (p : ℕ → Bool) (from n : ℕ) → Search p from n
search-first p from zero = missing (λ j low high. absurd (omega arith))
search-first p from (suc n) = search-either p from n (search-first p (suc from) n) (p from) refl

-- ---- words

first-size : (p : ℕ → Bool) (s : List ℕ) → (n : ℕ) × IsFirstSize p s n
first-size p s = go (decoded s).char refl
  where
    test : (c : ℕ) → (decoded s).char ≡ Some c → (v : Bool) → p c ≡ v → (n : ℕ) × IsFirstSize p s n
    test c e true f = ((decoded s).size, wide-some p s c (decoded s).size e refl f)
    test c e false f = (0, wide-other p s c e f)

    go : (o : Option ℕ) → (decoded s).char ≡ o → (n : ℕ) × IsFirstSize p s n
    go None e = (0, wide-none p s e)
    go (Some c) e = test c e (p c) refl

too-far : (at size n : ℕ) → n ≤ at + 0 → at + size ≤ n → 0 < size → ⊥
too-far at size n h i some = omega arith

less-fuel : (at size n fuel : ℕ) → n ≤ at + suc fuel → 0 < size → n ≤ (at + size) + fuel
less-fuel at size n fuel h some = omega arith

word-grows : (fuel : ℕ) (s : List ℕ) (at size : ℕ) → IsGrown s at size → length s ≤ at + fuel → (n : ℕ) × IsWordSize s n
word-grows zero s at size h enough = elim (cases_lt 0 size) [
  | inr none ↦ (at, grown-end s at size h none)
  | inl some ↦
      let next = first-size continues_word (drop (at + size) s) in
      absurd (too-far at size (length s) enough (grown-more s at size next.0 h some next.1).inside some)
]
word-grows (suc fuel) s at size h enough = elim (cases_lt 0 size) [
  | inr none ↦ (at, grown-end s at size h none)
  | inl some ↦
      let next = first-size continues_word (drop (at + size) s) in
      word-grows fuel s (at + size) next.0 (grown-more s at size next.0 h some next.1) (less-fuel at size (length s) fuel enough some)
]

all-fuel : (at n : ℕ) → n ≤ at + n
all-fuel at n = omega arith

word-size : (s : List ℕ) → (n : ℕ) × IsWordSize s n
word-size s =
    let first = first-size begins_word s in
    elim (decide first.0 0) [
      | inl none ↦ (0, no-word s first.0 first.1 none)
      | inr some ↦
          let next = first-size continues_word (drop first.0 s) in
          word-grows (length s) s first.0 next.0 (grown-init s first.0 next.0 first.1 some next.1) (all-fuel first.0 (length s))
    ]

-- ---- the automaton's longest text

same-end : (at n : ℕ) → at ≤ n → n ≤ at → at ≡ n
same-end at n h i = omega arith

one-fuel : (at n fuel : ℕ) → n ≤ at + suc fuel → n ≤ (at + 1) + fuel
one-fuel at n fuel h = omega arith

no-fuel : (at n : ℕ) → n ≤ at + 0 → n ≤ at
no-fuel at n h = omega arith

less-more : (at n : ℕ) → at < n → at + 1 ≤ n
less-more at n h = omega arith

best-further : (fuel start : ℕ) (s : List ℕ) (at state class size : ℕ) → IsStart start → AreBytes s → IsBest start s at state class size
    → at ≤ length s → length s ≤ at + fuel → (r : Found) × IsLongestOf start s r
best-further zero start s at state class size starts bytes h inside enough =
    (record { class = class; size = size; «open» = true }, best-end start s at state class size starts h (same-end at (length s) inside (no-fuel at (length s) enough)))
best-further (suc fuel) start s at state class size starts bytes h inside enough = elim (cases_lt at (length s)) [
  | inr ends ↦
      (record { class = class; size = size; «open» = true }, best-end start s at state class size starts h (same-end at (length s) inside ends))
  | inl more ↦
      let q = next_state state (get_or s at 0) in
      elim (decide q 0) [
        | inl dead ↦ (record { class = class; size = size; «open» = false }, best-dead start s at state class size starts h more (bytes at) dead)
        | inr alive ↦ elim (decide (state_class q) 0) [
          | inl none ↦
              best-further fuel start s (at + 1) q class size starts bytes (best-stays start s at state class size h more (bytes at) alive none)
              (less-more at (length s) more) (one-fuel at (length s) fuel enough)
          | inr some ↦
              best-further fuel start s (at + 1) q (state_class q) (at + 1) starts bytes (best-longer start s at state class size h more (bytes at) alive some)
              (less-more at (length s) more) (one-fuel at (length s) fuel enough)
        ]
      ]
]

zero-low : (n : ℕ) → 0 ≤ n
zero-low n = omega arith

longest-found : (start : ℕ) (s : List ℕ) → IsStart start → AreBytes s → (r : Found) × IsLongestOf start s r
longest-found start s starts bytes =
    best-further (length s) start s 0 start 0 0 starts bytes (best-init start s starts) (zero-low (length s)) (all-fuel 0 (length s))

-- ---- escapes that are refused

data Refusal (escape : Expression) (s : List ℕ) : Type 0 where
  first_at : (n : ℕ) → IsFirstRefused escape s n → Refusal escape s
  none_at : NoneRefused escape s → Refusal escape s

only-kind : (r : Expression) (k : ℕ) (s : List ℕ) → Fits k ((1, r) ∷ []) s → (k ≡ 1) × (Rattle.rw_base.specs.Expressions.Matches r s)
only-kind r k s h = elim h [ inl a ↦ a | inr b ↦ absurd b ]

refused-here : (start : ℕ) (s : List ℕ) (at : ℕ) (r : Found) → IsEscape start → IsClear (escape_of start) s at → at < length s
    → IsLongestOf start (drop at s) r → (r.class ≡ 0 → ⊥) → IsFirstRefused (escape_of start) s at
refused-here start s at r starts h inside longest some = record {
  stands = record {
    size = r.size;
    is = (only-kind (escape_of start) r.class (take r.size (drop at s))
        (subst (λ ks. Fits r.class ks (take r.size (drop at s))) (escape-known start starts) (longest.is some))).1;
    eligible = h.even inside;
  };
  first = h.clear;
}

refused-not : (start : ℕ) (s : List ℕ) (at : ℕ) (r : Found) → IsEscape start → IsLongestOf start (drop at s) r → r.class ≡ 0
    → IsRefusedAt (escape_of start) s at → ⊥
refused-not start s at r starts longest none refused =
    longest.none none refused.size 1 (subst (λ ks. Fits 1 ks (take refused.size (drop at s))) (sym (escape-known start starts)) (inl (refl, refused.is)))

two-fuel : (at n fuel : ℕ) → n ≤ at + suc fuel → n ≤ (at + 2) + fuel
two-fuel at n fuel h = omega arith

refusal-from : (fuel start : ℕ) (s : List ℕ) (at : ℕ) → IsEscape start → AreBytes s → IsClear (escape_of start) s at → length s ≤ at + fuel
    → Refusal (escape_of start) s
refusal-from zero start s at starts bytes h enough =
    none_at (clear-end (escape_of start) s at (escape-begins start starts) h (no-fuel at (length s) enough))
refusal-from (suc fuel) start s at starts bytes h enough = elim (cases_lt at (length s)) [
  | inr ends ↦ none_at (clear-end (escape_of start) s at (escape-begins start starts) h ends)
  | inl more ↦ elim (decide (get_or s at 0) 92) [
    | inr plain ↦
        refusal-from fuel start s (at + 1) starts bytes (clear-plain (escape_of start) s at (escape-begins start starts) h more plain) (one-fuel at (length s) fuel enough)
    | inl is ↦
        let r = longest-found start (drop at s) (inr starts) (bytes-drop at s bytes) in
        elim (decide r.0.class 0) [
          | inl none ↦
              refusal-from fuel start s (at + 2) starts bytes (clear-pair (escape_of start) s at h more is (refused-not start s at r.0 starts r.1 none))
              (two-fuel at (length s) fuel enough)
          | inr some ↦ first_at at (refused-here start s at r.0 starts h more r.1 some)
        ]
  ]
]

refusal : (start : ℕ) (s : List ℕ) → IsEscape start → AreBytes s → Refusal (escape_of start) s
refusal start s starts bytes =
    refusal-from (length s) start s 0 starts bytes (clear-init (escape_of start) s) (all-fuel 0 (length s))

in-comment : (s : List ℕ) → AreBytes s → Refusal comment_refused s
in-comment s bytes = refusal 3 s (inr refl) bytes

in-literal : (s : List ℕ) → AreBytes s → Refusal literal_refused s
in-literal s bytes = refusal 2 s (inl refl) bytes

-- ---- what stands next

data Next (broken : Bool) (s : List ℕ) : Type 0 where
  a_blank : (n : ℕ) → IsBlank s n → 0 < n → Next broken s
  a_leaf : (class n : ℕ) → IsNextLeaf s class n → Next broken s
  the_end : s ≡ [] → broken ≡ false → Next broken s
  a_stop : (n : ℕ) (cause : Cause) → IsBad broken s n cause → Next broken s

closed-comment : (broken : Bool) (s : List ℕ) (n : ℕ) → AreBytes s → 0 < n → IsComment s n → Next broken s
closed-comment broken s n bytes some is = go (in-comment (take n s) (bytes-take n s bytes))
  where
    go : Refusal comment_refused (take n s) → Next broken s
    go (first_at at first) = a_stop at BadLeaf (in_comment n is first refl)
    go (none_at none) = a_blank n (comment is none) some

open-at : (broken : Bool) (escape : Expression) (s : List ℕ) → Refusal escape s → (n : ℕ) × (cause : Cause) × IsBadOpen broken escape s n cause
open-at false escape s r = (0, BadLeaf, never_closed refl refl refl)
open-at true escape s (first_at n first) = (n, BadLeaf, escaped refl first refl)
open-at true escape s (none_at none) = (length s, NotUtf8, cut_off refl none refl refl)

not-past : (s : List ℕ) (b : ℕ) → get_or s 0 0 ≡ suc b → 0 < length s
not-past [] b e = absurd (omega arith)
not-past (a ∷ s) b e = omega arith

eqb-is : (m n : ℕ) → eqb m n ≡ true → m ≡ n
eqb-is m n e = grind (arith, nat_tests)

line-next : (broken : Bool) (s : List ℕ) → AreBytes s → begins_line_comment s ≡ true → Next broken s
line-next broken s bytes begins = go (search-first (λ k. is_line_end (get_or s k 0)) 0 (length s))
  where
    slash : get_or s 0 0 ≡ 47
    slash = eqb-is (get_or s 0 0) 47 (either-true (eqb (get_or s 0 0) 47) (eqb (get_or s 1 0) 47) begins).0

    some : 0 < length s
    some = not-past s 46 slash

    not-first : (k : ℕ) → is_line_end (get_or s k 0) ≡ true → 0 < k
    not-first zero e = absurd (let f : false ≡ true = ap (λ b. is_line_end b) (sym slash) ∙ e in cc)
    not-first (suc k) e = omega arith

    go : Search (λ k. is_line_end (get_or s k 0)) 0 (length s) → Next broken s
    go (found k low high is before) =
        closed-comment broken s k bytes (not-first k is)
        (line (record { begins = begins; inside = omega arith; one_line = λ j less. before j (zero-low j) less; ends = inr is }))
    go (missing none) =
        closed-comment broken s (length s) bytes some
        (line (record { begins = begins; inside = omega arith; one_line = λ j less. none j (zero-low j) (omega arith); ends = inl refl }))

closes : List ℕ → ℕ → Bool
closes s k = eqb (get_or s k 0) 42 && eqb (get_or s (k + 1) 0) 47

closes-is : (s : List ℕ) (k : ℕ) → closes s k ≡ true → ClosesAt s k
unfolding closes
closes-is s k e =
    let w = either-true (eqb (get_or s k 0) 42) (eqb (get_or s (k + 1) 0) 47) e in
    (eqb-is (get_or s k 0) 42 w.0, eqb-is (get_or s (k + 1) 0) 47 w.1)

both-tests : (a b : ℕ) → a ≡ 42 → b ≡ 47 → (eqb a 42 && eqb b 47) ≡ true
both-tests a b e f = ap (λ x. eqb x 42 && eqb b 47) e ∙ ap (λ x. eqb x 47) f

closes-not : (s : List ℕ) (k : ℕ) → closes s k ≡ false → ClosesAt s k → ⊥
unfolding closes
closes-not s k e h = let f : true ≡ false = sym (both-tests (get_or s k 0) (get_or s (k + 1) 0) h.0 h.1) ∙ e in cc

closes-inside : (s : List ℕ) (k : ℕ) → ClosesAt s k → k < length s
closes-inside s k h = elim (cases_lt k (length s)) [
  | inl inside ↦ inside
  | inr beyond ↦ absurd (let f : 0 ≡ 42 = sym (get_or_past s k 0 beyond) ∙ h.0 in cc)
]

more-two : (k n : ℕ) → k < n → k < 2 + n
more-two k n h = omega arith

some-two : (k : ℕ) → 0 < k + 2
some-two k = omega arith

block-next : (broken : Bool) (s : List ℕ) → AreBytes s → begins_block_comment s ≡ true → Next broken s
block-next broken s bytes begins = go (search-first (λ k. closes s k) 2 (length s))
  where
    go : Search (λ k. closes s k) 2 (length s) → Next broken s
    go (found k low high is before) =
        closed-comment broken s (k + 2) bytes (some-two k)
        (block (record {
          begins = begins;
          close = k;
          closes = closes-is s k is;
          behind = low;
          first = λ j least less here. closes-not s j (before j least less) here;
          ends = refl;
        }))
    go (missing none) =
        let w = open-at broken comment_refused s (in-comment s bytes) in
        a_stop w.0 w.1 (open_comment
        (record { begins = begins; unclosed = λ k low here. closes-not s k (none k low (more-two k (length s) (closes-inside s k here))) here }) w.2)

literal-next : (broken : Bool) (s : List ℕ) (class size : ℕ) → AreBytes s → IsLeafPlace s → IsLongest s class size → is_literal class ≡ true → Next broken s
literal-next broken s class size bytes place longest is = go (in-literal (take size s) (bytes-take size s bytes))
  where
    go : Refusal literal_refused (take size s) → Next broken s
    go (first_at at first) = a_stop at BadLeaf (in_literal class size place longest is first refl)
    go (none_at none) = a_leaf class size (record { place = place; longest = longest; accepted = λ e. none })

none-next : (broken : Bool) (s : List ℕ) (n : ℕ) (r : Found) → AreBytes s → IsLeafPlace s → IsWordSize s n → n ≤ 0 → IsLongestOf 1 s r → r.class ≡ 0
    → Next broken s
none-next broken s n r bytes place size none longest zero_class = go r.«open» refl
  where
    nothing_here : BeginsNone s
    nothing_here = begins-none s n r size none longest zero_class

    go : (v : Bool) → r.«open» ≡ v → Next broken s
    go true e =
        let w = open-at broken literal_refused s (in-literal s bytes) in
        a_stop w.0 w.1 (open_literal place nothing_here (longest.open_ e) w.2)
    go false e = a_stop 0 BadLeaf (no_leaf place nothing_here (λ more. longest.closed e more.0 more.1 more.2) refl refl)

leaf-next : (broken : Bool) (s : List ℕ) → AreBytes s → IsLeafPlace s → Next broken s
leaf-next broken s bytes place =
    let w = word-size s in
    elim (cases_lt 0 w.0) [
      | inl some ↦ a_leaf (word_class (take w.0 s)) w.0 (word-leaf s w.0 (word_class (take w.0 s)) place (bytes 0) w.1 some refl).0
      | inr none ↦ others w.0 w.1 none
    ]
  where
    found_leaf : (n : ℕ) (r : Found) → IsWordSize s n → n ≤ 0 → IsLongestOf 1 s r → (r.class ≡ 0 → ⊥) → (v : Bool) → is_literal r.class ≡ v → Next broken s
    found_leaf n r size none longest some true e = literal-next broken s r.class r.size bytes place (other-longest s n r size none longest some) e
    found_leaf n r size none longest some false e = a_leaf r.class r.size (other-leaf s n r place size none longest some e).0

    others : (n : ℕ) → IsWordSize s n → n ≤ 0 → Next broken s
    others n size none =
        let r = longest-found 1 s (inl refl) bytes in
        elim (decide r.0.class 0) [
          | inl zero_class ↦ none-next broken s n r.0 bytes place size none r.1 zero_class
          | inr some ↦ found_leaf n r.0 size none r.1 some (is_literal r.0.class) refl
        ]

next : (broken : Bool) (s : List ℕ) → AreBytes s → Next broken s
next false [] bytes = the_end refl refl
next true [] bytes = a_stop 0 NotUtf8 (broken_end refl refl refl refl)
next broken (b ∷ s) bytes = blanks (is_white b) refl
  where
    text : List ℕ
    text = b ∷ s

    comments : is_white b ≡ false → (v w : Bool) → begins_line_comment (b ∷ s) ≡ v → begins_block_comment (b ∷ s) ≡ w → Next broken (b ∷ s)
    comments f true w e g = line-next broken (b ∷ s) bytes e
    comments f false true e g = block-next broken (b ∷ s) bytes g
    comments f false false e g =
        leaf-next broken (b ∷ s) bytes (record { some = omega arith; not_white = f; not_comment = ap (λ x. x || begins_block_comment (b ∷ s)) e ∙ g })

    blanks : (v : Bool) → is_white b ≡ v → Next broken (b ∷ s)
    blanks true e = a_blank 1 (white (omega arith) e refl) (omega arith)
    blanks false e = comments e (begins_line_comment (b ∷ s)) (begins_block_comment (b ∷ s)) refl refl

-- ---- the leaves of a text

abbrev Leaved : Bool → ℕ → ℕ → List ℕ → Type 0
Leaved broken from at s = (leaves : List Leaf) × (bad : Option Bad) × Cuts broken from at s leaves bad

shorter : (n k m : ℕ) → 0 < n → k ≤ suc m → k - n ≤ m
shorter n k m some h = omega arith

rest-shorter : (s : List ℕ) (n m : ℕ) → 0 < n → length s ≤ suc m → length (drop n s) ≤ m
rest-shorter s n m some h = subst (λ k. k ≤ m) (sym (length-drop n s)) (shorter n (length s) m some h)

nothing-left : (n k : ℕ) → 0 < n → n ≤ k → k ≤ 0 → ⊥
nothing-left n k some h i = omega arith

cut-next : (broken : Bool) (from at : ℕ) (s : List ℕ) → ((n next_from : ℕ) → 0 < n → n ≤ length s → Leaved broken next_from (at + n) (drop n s))
    → Next broken s → Leaved broken from at s
cut-next broken from at s further (the_end is b) = (end_leaf from at ∷ [], None, ended is b)
cut-next broken from at s further (a_stop n cause h) =
    (end_leaf from (at + n) ∷ [], Some (record { byte = at + n; cause = cause }), stopped n cause h)
cut-next broken from at s further (a_blank n h some) =
    let r = further n from some (blank-inside s n h) in
    (r.0, r.1, passed n h r.2)
cut-next broken from at s further (a_leaf class n h) =
    let r = further n (at + n) (next-some s class n h) h.longest.inside in
    (record { prefix_from = from; from = at; to = at + n; class = class } ∷ r.0, r.1, leaf class n h r.2)

cut-some : (fuel : ℕ) (broken : Bool) (from at : ℕ) (s : List ℕ) → AreBytes s → length s ≤ fuel → Leaved broken from at s
cut-some zero broken from at s bytes enough =
    cut-next broken from at s (λ n next_from some inside. absurd (nothing-left n (length s) some inside enough)) (next broken s bytes)
cut-some (suc fuel) broken from at s bytes enough =
    cut-next broken from at s (λ n next_from some inside. cut-some fuel broken next_from (at + n) (drop n s) (bytes-drop n s bytes) (rest-shorter s n fuel some enough))
    (next broken s bytes)

≤-self : (n : ℕ) → n ≤ n
≤-self n = omega arith

pub leaves-exist : (bytes : List ℕ) → AreBytes bytes → (leaves : List Leaf) × (bad : Option Bad) × AreJavaLeaves bytes leaves bad
unfolding AreJavaLeaves
leaves-exist bytes are =
    let text = utf8_front bytes in
    let rest = drop (mark_size text) text in
    cut-some (length rest) (is_broken bytes) 0 (mark_size text) rest (bytes-drop (mark_size text) text (bytes-take (utf8_valid_len bytes) bytes are)) (≤-self (length rest))
