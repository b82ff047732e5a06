-- A leaf that is `;`, `{` or `}` ends what stands before it: texts that agree up to it are cut alike up to it.
use Rattle.std.proofs.Common.{◌≡◌, ℕ, suc, zero, ◌+◌, ◌-◌, ◌/◌, ◌%◌, ◌<◌, ◌≤◌, inl, inr, Bool, true, false, cond, not, ◌&&◌, ◌||◌, eqb, ltb, List, [], ◌∷◌, ◌++◌, length, take, drop, get_or, Option, refl, sym, ◌∙◌, ap, subst, arith}
use Rattle.std.proofs.lemmas.Bool.{cases_lt}
use Rattle.std.proofs.lemmas.Bool.Decides.{nat_tests}
use Rattle.std.proofs.lemmas.List.{length-drop, length-take, length-take-le, take-take, drop-take, get_or-drop, take_more, get_or-take}
use Rattle.std.specs.Char.{encode_utf8}
use Rattle.std.specs.Str.{encode_utf8_all}
use Rattle.std.proofs.lemmas.Str.{encode_ascii}
use Rattle.rw_base.specs.Expressions.{Expression}
use Rattle.java_lex.specs.Kinds.{IsLeaf, word, other, Fits, kinds}
use Rattle.java_lex.specs.Words.{IsWord, AllContinue, begins_word, continues_word}
use Rattle.java_lex.specs.Blanks.{is_white, begins_comment, is_line_end, IsComment, line, block, IsLineComment, IsBlockComment}
use Rattle.java_lex.specs.Literals.{literal_refused, comment_refused}
use Rattle.java_lex.specs.Escapes.{NoneRefused}
use Rattle.java_lex.specs.Leaves.{IsLeafPlace, IsNextLeaf, IsBlank, white, comment, Cuts, passed, leaf, ended, stopped, end_leaf}
use Rattle.rw_base.specs.declared.tree.Leaf.{Leaf}
use Rattle.rw_base.specs.declared.leaves.Bad.{Bad}
use Rattle.java_lex.proofs.Tiling.{blank-inside, next-some}
use Rattle.java_lex.specs.Scanning.{known, next_state, state_class}
use Rattle.java_lex.specs.Laws.{AreBytes, is_alone, LeavesBeginWith, IsAloneAt}
use Rattle.java_lex.proofs.Derivatives.{step, after}
use Rattle.java_lex.proofs.States.{all_from, meaning, leaf_is, dead_is}
use Rattle.java_lex.proofs.Runs.{at_all, after-to, next-right, next-inside, class-none}
use Rattle.java_lex.proofs.Following.{either-true, or-true}
use Rattle.java_lex.proofs.Letters.{begins-table, goes-table}
use Rattle.java_lex.proofs.Pieces.{word-dead, none-other}
use Rattle.java_lex.proofs.Steps.{bytes-drop, bytes-take, fits-at, leaf_record, leaf-is, blank-one, next-size_one, next-class_one, blank-not_leaf, blank-not_end, blank-not_bad, leaf-not_end, leaf-not_bad}
use Rattle.java_lex.proofs.Best.{behind-front}

-- the states behind a leaf, and those to which they lead
unfoldable settled_states : List ℕ
settled_states = 1 ∷ 0 ∷ 0 ∷ 0 ∷ 1 ∷ 0 ∷ 1 ∷ 1 ∷ 0 ∷ 1 ∷ 1 ∷ 1 ∷ 1 ∷ 1 ∷ 1 ∷ 1 ∷ 1 ∷ 1 ∷ 1 ∷ 1 ∷ 1 ∷ 1 ∷ 1 ∷ 1 ∷ 1 ∷ 1 ∷ 1 ∷ 1 ∷ 1 ∷ 1 ∷ 1 ∷ 1 ∷ 1 ∷ 0 ∷ 0 ∷ 1 ∷ 1 ∷ 0 ∷ 0 ∷ 1 ∷ 1 ∷ 1 ∷ 0 ∷ 0 ∷ 0 ∷ 1 ∷ 1 ∷ 1 ∷ 1 ∷ 1 ∷ 1 ∷ 1 ∷ 1 ∷ 1 ∷ 1 ∷ 1 ∷ 1 ∷ 1 ∷ 1 ∷ 1 ∷ 1 ∷ 1 ∷ 1 ∷ 1 ∷ 1 ∷ 1 ∷ 1 ∷ 1 ∷ 1 ∷ 1 ∷ 0 ∷ 0 ∷ 0 ∷ 0 ∷ 0 ∷ 1 ∷ 0 ∷ 0 ∷ 0 ∷ 1 ∷ 1 ∷ 1 ∷ 1 ∷ 1 ∷ 1 ∷ 1 ∷ 1 ∷ 0 ∷ 0 ∷ 0 ∷ 0 ∷ 0 ∷ 1 ∷ 1 ∷ 1 ∷ 1 ∷ 1 ∷ 0 ∷ 0 ∷ 0 ∷ 0 ∷ 1 ∷ 0 ∷ 0 ∷ 0 ∷ 0 ∷ 0 ∷ 0 ∷ 1 ∷ []

unfoldable settled : ℕ → Bool
settled q = eqb (get_or settled_states q 0) 1

abbrev implies : Bool → Bool → Bool
implies a b = not a || b

leaves_settled : all_from 109 0 (λ q. eqb (state_class q) 0 || settled q) ≡ true
unfolding settled settled_states state_class
leaves_settled = refl

stay_settled : all_from 109 0 (λ q. implies (settled q) (all_from 256 0 (λ b. settled (next_state q b)))) ≡ true
unfolding settled settled_states next_state
stay_settled = refl

alone_ends : all_from 109 0 (λ q. implies (settled q) (eqb (next_state q 59) 0 && eqb (next_state q 123) 0 && eqb (next_state q 125) 0)) ≡ true
unfolding settled settled_states next_state
alone_ends = refl

-- nothing goes on behind one of these three
abbrev ends_all : ℕ → Bool
ends_all b = all_from 256 0 (λ c. eqb (next_state (next_state 1 b) c) 0)

alone_last : (ends_all 59 && ends_all 123 && ends_all 125) ≡ true
unfolding next_state
alone_last = refl

eqb-is : (m n : ℕ) → eqb m n ≡ true → m ≡ n
eqb-is m n e = grind (arith, nat_tests)

less-down : (i n : ℕ) → suc i < suc n → i < n
less-down i n h = omega arith

less-trans : (a b c : ℕ) → a < b → b ≤ c → a < c
less-trans a b c h k = omega arith

less-more : (i m : ℕ) → i < m → i + 1 ≤ m
less-more i m h = omega arith

some-more : (i m : ℕ) → i < m → 0 < m
some-more i m h = omega arith

one-low : 1 < 109
one-low = omega arith

implied : (a b : Bool) → implies a b ≡ true → a ≡ true → b ≡ true
implied true b e f = e
implied false b e f = absurd (let g : false ≡ true = f in cc)

settled-leaf : (q : ℕ) → q < 109 → (state_class q ≡ 0 → ⊥) → settled q ≡ true
settled-leaf q inside some =
    let e = at_all 109 0 (λ p. eqb (state_class p) 0 || settled p) leaves_settled q (omega arith) (omega arith) in
    elim (or-true (eqb (state_class q) 0) (settled q) e) [ inl z ↦ absurd (some (eqb-is (state_class q) 0 z)) | inr y ↦ y ]

settled-next : (q b : ℕ) → q < 109 → b < 256 → settled q ≡ true → settled (next_state q b) ≡ true
settled-next q b inside fits h =
    let e = at_all 109 0 (λ p. implies (settled p) (all_from 256 0 (λ c. settled (next_state p c)))) stay_settled q (omega arith) (omega arith) in
    at_all 256 0 (λ c. settled (next_state q c)) (implied (settled q) _ e h) b (omega arith) (omega arith)

alone-cases : (P : ℕ → Type 0) → P 59 → P 123 → P 125 → (c : ℕ) → is_alone c ≡ true → P c
alone-cases P one two three c e = elim (or-true (eqb c 59 || eqb c 123) (eqb c 125) e) [
  | inl h ↦ elim (or-true (eqb c 59) (eqb c 123) h) [
    | inl f ↦ subst P (sym (eqb-is c 59 f)) one
    | inr f ↦ subst P (sym (eqb-is c 123 f)) two
  ]
  | inr f ↦ subst P (sym (eqb-is c 125 f)) three
]

settled-alone : (q c : ℕ) → q < 109 → settled q ≡ true → is_alone c ≡ true → next_state q c ≡ 0
settled-alone q c inside h is =
    let e = at_all 109 0 (λ p. implies (settled p) (eqb (next_state p 59) 0 && eqb (next_state p 123) 0 && eqb (next_state p 125) 0)) alone_ends q (omega arith) (omega arith) in
    let w = either-true (eqb (next_state q 59) 0 && eqb (next_state q 123) 0) (eqb (next_state q 125) 0) (implied (settled q) _ e h) in
    let v = either-true (eqb (next_state q 59) 0) (eqb (next_state q 123) 0) w.0 in
    alone-cases (λ b. next_state q b ≡ 0) (eqb-is _ 0 v.0) (eqb-is _ 0 v.1) (eqb-is _ 0 w.1) c is

ends-at : (k b : ℕ) → ends_all k ≡ true → b < 256 → next_state (next_state 1 k) b ≡ 0
ends-at k b e fits = eqb-is _ 0 (at_all 256 0 (λ c. eqb (next_state (next_state 1 k) c) 0) e b (omega arith) (omega arith))

alone-final : (c b : ℕ) → is_alone c ≡ true → b < 256 → next_state (next_state 1 c) b ≡ 0
alone-final c b is fits =
    let w = either-true (ends_all 59 && ends_all 123) (ends_all 125) alone_last in
    let v = either-true (ends_all 59) (ends_all 123) w.0 in
    alone-cases (λ k. next_state (next_state 1 k) b ≡ 0) (ends-at 59 b v.0 fits) (ends-at 123 b v.1 fits) (ends-at 125 b w.1 fits) c is

bytes-rest : (b : ℕ) (s : List ℕ) → AreBytes (b ∷ s) → AreBytes s
bytes-rest b s h i = h (suc i)

reached : (t : List ℕ) → AreBytes t → (p : ℕ) → p < 109 → (q : ℕ) × (q < 109) × (after t (meaning p) ≡ meaning q)
reached [] h p inside = (p, inside, refl)
reached (b ∷ t) h p inside =
    let r = reached t (bytes-rest b t h) (next_state p b) (next-inside p b inside (h 0)) in
    (r.0, r.1, ap (λ ks. after t ks) (next-right p b inside (h 0)) ∙ r.2)

reached-settled : (t : List ℕ) → AreBytes t → (p : ℕ) → p < 109 → settled p ≡ true → (q : ℕ) × (q < 109) × (settled q ≡ true) × (after t (meaning p) ≡ meaning q)
reached-settled [] h p inside is = (p, inside, is, refl)
reached-settled (b ∷ t) h p inside is =
    let r = reached-settled t (bytes-rest b t h) (next_state p b) (next-inside p b inside (h 0)) (settled-next p b inside (h 0) is) in
    (r.0, r.1, r.2, ap (λ ks. after t ks) (next-right p b inside (h 0)) ∙ r.3)

after-append : (x y : List ℕ) (ks : List (ℕ × Expression)) → after (x ++ y) ks ≡ after y (after x ks)
after-append [] y ks = refl
after-append (b ∷ x) y ks = after-append x y (step b ks)

-- ---- the bytes of words

data Plain (b : ℕ) : Type 0 where
  wide_byte : 128 ≤ b → Plain b
  begins : begins_word b ≡ true → Plain b
  goes : continues_word b ≡ true → Plain b

abbrev AllPlain : List ℕ → Type 0
AllPlain [] = Unit {0}
AllPlain (b ∷ s) = Plain b × AllPlain s

plain-append : (x y : List ℕ) → AllPlain x → AllPlain y → AllPlain (x ++ y)
plain-append [] y f g = g
plain-append (b ∷ x) y f g = (f.0, plain-append x y f.1 g)

plain-at : (x : List ℕ) (i : ℕ) → AllPlain x → i < length x → Plain (get_or x i 0)
plain-at [] i f h = absurd (omega arith)
plain-at (b ∷ x) zero f h = f.0
plain-at (b ∷ x) (suc i) f h = plain-at x i f.1 (less-down i (length x) h)

high-chain : (v w : Bool) (c : ℕ) → AllPlain (cond v ((192 + c / 64) ∷ (128 + c % 64) ∷ []) (cond w ((224 + c / 4096) ∷ (128 + (c / 64) % 64) ∷ (128 + c % 64) ∷ [])
    ((240 + c / 262144) ∷ (128 + (c / 4096) % 64) ∷ (128 + (c / 64) % 64) ∷ (128 + c % 64) ∷ [])))
high-chain true w c = (wide_byte (omega arith), (wide_byte (omega arith), tt))
high-chain false true c = (wide_byte (omega arith), (wide_byte (omega arith), (wide_byte (omega arith), tt)))
high-chain false false c = (wide_byte (omega arith), (wide_byte (omega arith), (wide_byte (omega arith), (wide_byte (omega arith), tt))))

high-first : (v : Bool) (c : ℕ) (rest : List ℕ) → v ≡ false → AllPlain rest → AllPlain (cond v (c ∷ []) rest)
high-first true c rest e h = absurd (let f : true ≡ false = e in cc)
high-first false c rest e h = h

high-encode : (c : ℕ) → 128 ≤ c → AllPlain (encode_utf8 c)
unfolding encode_utf8
high-encode c h = high-first (ltb c 128) c _ (grind (arith, nat_tests)) (high-chain (ltb c 2048) (ltb c 65536) c)

letter-plain : (c : ℕ) → Plain c → AllPlain (encode_utf8 c)
letter-plain c p = elim (cases_lt c 128) [
  | inl low ↦ subst (λ x. AllPlain x) (sym (encode_ascii c low)) (p, tt)
  | inr wide ↦ high-encode c wide
]

goes-plain : (cs : List ℕ) → AllContinue cs → AllPlain (encode_utf8_all cs)
goes-plain [] h = tt
goes-plain (c ∷ cs) h = plain-append (encode_utf8 c) (encode_utf8_all cs) (letter-plain c (goes h.0.passes)) (goes-plain cs h.1)

word-plain : (x : List ℕ) → IsWord x → AllPlain x
word-plain x w =
    subst (λ y. AllPlain y) (sym w.is)
    (plain-append (encode_utf8 w.first) (encode_utf8_all w.others) (letter-plain w.first (begins w.begins.passes)) (goes-plain w.others w.goes))

table-not : (v : Bool) (n : ℕ) → n ≡ cond v 1 0 → n ≡ 0 → v ≡ true → ⊥
table-not true n e z f = let g : n ≡ 1 = e in omega arith
table-not false n e z f = let g : false ≡ true = f in cc

alone-not_plain : (c : ℕ) → is_alone c ≡ true → Plain c → ⊥
alone-not_plain c is (wide_byte h) = alone-cases (λ k. 128 ≤ k → ⊥) (λ x. omega arith) (λ x. omega arith) (λ x. omega arith) c is h
alone-not_plain c is (begins h) = alone-cases (λ k. begins_word k ≡ true → ⊥)
    (table-not (begins_word 59) _ (begins-table 59 (omega arith)) refl) (table-not (begins_word 123) _ (begins-table 123 (omega arith)) refl) (table-not (begins_word 125) _ (begins-table 125 (omega arith)) refl) c is h
alone-not_plain c is (goes h) = alone-cases (λ k. continues_word k ≡ true → ⊥)
    (table-not (continues_word 59) _ (goes-table 59 (omega arith)) refl) (table-not (continues_word 123) _ (goes-table 123 (omega arith)) refl) (table-not (continues_word 125) _ (goes-table 125 (omega arith)) refl) c is h

-- ---- no leaf goes over such a character

word-not_over : (t : List ℕ) (m i : ℕ) → i < m → m ≤ length t → is_alone (get_or t i 0) ≡ true → IsWord (take m t) → ⊥
word-not_over t m i less inside is w =
    let here : i < length (take m t) = subst (λ n. i < n) (sym (length-take-le m t inside)) less in
    let same : get_or (take m t) i 0 ≡ get_or t i 0 = get_or-take m t i 0 less in
    alone-not_plain (get_or (take m t) i 0) (ap (λ b. is_alone b) same ∙ is) (plain-at (take m t) i (word-plain (take m t) w) here)

fits-not_over : (t : List ℕ) (n i m j k : ℕ) → AreBytes t → n ≤ i → i < m → m ≤ length t → is_alone (get_or t i 0) ≡ true
    → Fits j kinds (take n t) → Fits k kinds (take m t) → ⊥
fits-not_over t n i m j k bytes before less inside is f g =
    let r = reached (take n t) (bytes-take n t bytes) 1 one-low in
    let at_leaf = fits-at (take n t) j r.0 r.2 f in
    let settled_here = settled-leaf r.0 r.1 (λ z. class-none r.0 j r.1 z at_leaf) in
    let v = reached-settled (take (i - n) (drop n t)) (bytes-take (i - n) (drop n t) (bytes-drop n t bytes)) r.0 r.1 settled_here in
    let c = get_or t i 0 in
    let up_to : after (take i t) (meaning 1) ≡ meaning v.0 =
    ap (λ x. after x (meaning 1)) (behind-front t n i before) ∙ after-append (take n t) (take (i - n) (drop n t)) (meaning 1)
    ∙ ap (λ ks. after (take (i - n) (drop n t)) ks) r.2 ∙ v.3 in
    let ends : after (take (i + 1) t) (meaning 1) ≡ [] =
    ap (λ x. after x (meaning 1)) (take_more t i 0 (less-trans i m (length t) less inside)) ∙ after-append (take i t) (c ∷ []) (meaning 1)
    ∙ ap (λ ks. step c ks) up_to ∙ next-right v.0 c v.1 (bytes i) ∙ ap (λ q. meaning q) (settled-alone v.0 c v.1 v.2 is) ∙ dead_is in
    let rest = take (m - (i + 1)) (drop (i + 1) t) in
    subst (λ ks. Fits k ks rest) (ap (λ ks. after (take (i + 1) t) ks) (sym leaf_is) ∙ ends)
    (after-to (take (i + 1) t) k (known 1) rest (subst (λ x. Fits k (known 1) x) (behind-front t (i + 1) m (less-more i m less)) g))

pub none-over : (t : List ℕ) (n i m j k : ℕ) → AreBytes t → 0 < length t → n ≤ i → i < m → m ≤ length t → is_alone (get_or t i 0) ≡ true
    → IsLeaf j (take n t) → IsLeaf k (take m t) → ⊥
none-over t n i m j k bytes some before less inside is (word w e) (word v f) = word-not_over t m i less inside is v
none-over t n i m j k bytes some before less inside is (word w e) (other g) =
    none-other t m k some (some-more i m less) (bytes 0) (word-dead t n some (bytes 0) w) g
none-over t n i m j k bytes some before less inside is (other f) (word v e) = word-not_over t m i less inside is v
none-over t n i m j k bytes some before less inside is (other f) (other g) = fits-not_over t n i m j k bytes before less inside is f g

-- ---- texts that agree on their first bytes

pub record Agree (s t : List ℕ) (n : ℕ) : Type 0 where
  pub same : take n s ≡ take n t
  pub inside : n ≤ length s
  pub other_inside : n ≤ length t

agree-at : (s t : List ℕ) (n k : ℕ) → Agree s t n → k < n → get_or s k 0 ≡ get_or t k 0
agree-at s t n k h less = sym (get_or-take n s k 0 less) ∙ ap (λ x. get_or x k 0) h.same ∙ get_or-take n t k 0 less

agree-front : (s t : List ℕ) (n m : ℕ) → Agree s t n → m ≤ n → take m s ≡ take m t
agree-front s t n m h less = sym (take-take m n s less) ∙ ap (λ x. take m x) h.same ∙ take-take m n t less

sum-is : (i m : ℕ) → i ≤ m → m ≡ i + (m - i)
sum-is i m h = omega arith

agree-drop : (s t : List ℕ) (n m : ℕ) → Agree s t n → m ≤ n → Agree (drop m s) (drop m t) (n - m)
agree-drop s t n m h less = record {
  same = sym (drop-take m (n - m) s) ∙ ap (λ k. drop m (take k s)) (sym (sum-is m n less)) ∙ ap (λ x. drop m x) h.same
      ∙ ap (λ k. drop m (take k t)) (sum-is m n less) ∙ drop-take m (n - m) t;
  inside = let i = h.inside in omega (arith, length-drop m s);
  other_inside = let i = h.other_inside in omega (arith, length-drop m t);
}

first-true : (v : ℕ) (x : Bool) → (eqb v 47 && x) ≡ true → v ≡ 47
first-true v x e = eqb-is v 47 (either-true (eqb v 47) x e).0

slash-not_end : (b : ℕ) → b ≡ 47 → is_line_end b ≡ true → ⊥
slash-not_end b e f = let g : false ≡ true = ap (λ x. is_line_end x) (sym e) ∙ f in cc

begins-agree : (s t : List ℕ) (c : ℕ) → get_or s 0 0 ≡ get_or t 0 0 → get_or s 1 0 ≡ get_or t 1 0
    → (eqb (get_or s 0 0) 47 && eqb (get_or s 1 0) c) ≡ (eqb (get_or t 0 0) 47 && eqb (get_or t 1 0) c)
begins-agree s t c e f = ap (λ x. eqb x 47 && eqb (get_or s 1 0) c) e ∙ ap (λ x. eqb (get_or t 0 0) 47 && eqb x c) f

or-same : (a b c d : Bool) → a ≡ b → c ≡ d → (a || c) ≡ (b || d)
or-same a b c d e f = ap (λ x. x || c) e ∙ ap (λ x. b || x) f

two-slashes : (s : List ℕ) (m : ℕ) → get_or s 0 0 ≡ 47 → get_or s 1 0 ≡ 47 → is_line_end (get_or s m 0) ≡ true → 1 < m
two-slashes s zero e f g = absurd (slash-not_end (get_or s 0 0) e g)
two-slashes s (suc zero) e f g = absurd (slash-not_end (get_or s 1 0) f g)
two-slashes s (suc (suc m)) e f g = omega arith

line-agree : (s t : List ℕ) (n m : ℕ) → Agree s t n → m < n → IsLineComment s m → IsLineComment t m
line-agree s t n m h less c =
    let slashes = either-true (eqb (get_or s 0 0) 47) (eqb (get_or s 1 0) 47) c.begins in
    let ended : is_line_end (get_or s m 0) ≡ true = elim c.ends [ inl all ↦ absurd (let i = h.inside in omega arith) | inr e ↦ e ] in
    let more : 1 < m = two-slashes s m (eqb-is (get_or s 0 0) 47 slashes.0) (eqb-is (get_or s 1 0) 47 slashes.1) ended in
    record {
      begins = sym (begins-agree s t 47 (agree-at s t n 0 h (omega arith)) (agree-at s t n 1 h (omega arith))) ∙ c.begins;
      inside = let i = h.other_inside in omega arith;
      one_line = λ k low. ap (λ b. is_line_end b) (sym (agree-at s t n k h (omega arith))) ∙ c.one_line k low;
      ends = inr (ap (λ b. is_line_end b) (sym (agree-at s t n m h less)) ∙ ended);
    }

block-agree : (s t : List ℕ) (n m : ℕ) → Agree s t n → m < n → IsBlockComment s m → IsBlockComment t m
block-agree s t n m h less c =
    let ends : m ≡ c.close + 2 = c.ends in
    let behind = c.behind in
    record {
      begins = sym (begins-agree s t 42 (agree-at s t n 0 h (omega arith)) (agree-at s t n 1 h (omega arith))) ∙ c.begins;
      close = c.close;
      closes = (sym (agree-at s t n c.close h (omega arith)) ∙ c.closes.0, sym (agree-at s t n (c.close + 1) h (omega arith)) ∙ c.closes.1);
      behind = c.behind;
      first = λ k low high here. c.first k low high (agree-at s t n k h (omega arith) ∙ here.0, agree-at s t n (k + 1) h (omega arith) ∙ here.1);
      ends = c.ends;
    }

comment-agree : (s t : List ℕ) (n m : ℕ) → Agree s t n → m < n → IsComment s m → IsComment t m
comment-agree s t n m h less (line c) = line (line-agree s t n m h less c)
comment-agree s t n m h less (block c) = block (block-agree s t n m h less c)

pub blank-agree : (s t : List ℕ) (n m : ℕ) → Agree s t n → m < n → IsBlank s m → IsBlank t m
blank-agree s t n m h less (white some is one) =
    white (let i = h.other_inside in omega arith) (ap (λ b. is_white b) (sym (agree-at s t n 0 h (omega arith))) ∙ is) one
blank-agree s t n m h less (comment is none) =
    comment (comment-agree s t n m h less is) (subst (λ x. NoneRefused comment_refused x) (agree-front s t n m h (omega arith)) none)

both-agree : (s t : List ℕ) → get_or s 0 0 ≡ get_or t 0 0 → get_or s 1 0 ≡ get_or t 1 0 → begins_comment s ≡ begins_comment t
both-agree s t e f = or-same _ _ _ _ (begins-agree s t 47 e f) (begins-agree s t 42 e f)

place-agree : (s t : List ℕ) (n : ℕ) → Agree s t n → 1 < n → IsLeafPlace s → IsLeafPlace t
place-agree s t n h more p = record {
  some = let i = h.other_inside in omega arith;
  not_white = ap (λ b. is_white b) (sym (agree-at s t n 0 h (omega arith))) ∙ p.not_white;
  not_comment = sym (both-agree s t (agree-at s t n 0 h (omega arith)) (agree-at s t n 1 h (omega arith))) ∙ p.not_comment;
}

not-slash : (c : ℕ) → is_alone c ≡ true → eqb c 47 ≡ false
not-slash c is = alone-cases (λ k. eqb k 47 ≡ false) refl refl refl c is

none-slash : (v x y : Bool) → v ≡ false → ((v && x) || (v && y)) ≡ false
none-slash true x y e = absurd (let f : true ≡ false = e in cc)
none-slash false x y e = refl

alone-no_comment : (t : List ℕ) → is_alone (get_or t 0 0) ≡ true → begins_comment t ≡ false
alone-no_comment t is = none-slash (eqb (get_or t 0 0) 47) _ _ (not-slash (get_or t 0 0) is)

two-follow : (b c k : ℕ) (t : List ℕ) → b < 256 → c < 256 → is_alone b ≡ true → Fits k kinds (b ∷ c ∷ t) → ⊥
two-follow b c k t f g is h =
    let first = next-right 1 b one-low f in
    let ends : step c (step b (known 1)) ≡ [] =
    ap (λ ks. step c (step b ks)) (sym leaf_is) ∙ ap (λ ks. step c ks) first ∙ next-right (next_state 1 b) c (next-inside 1 b one-low f) g
    ∙ ap (λ q. meaning q) (alone-final b c is g) ∙ dead_is in
    subst (λ ks. Fits k ks t) ends (after-to (b ∷ c ∷ []) k (known 1) t h)

alone-no_fit : (t : List ℕ) (j k : ℕ) → AreBytes t → 1 < j → j ≤ length t → is_alone (get_or t 0 0) ≡ true → Fits k kinds (take j t) → ⊥
alone-no_fit [] j k bytes low high is h = omega arith
alone-no_fit (b ∷ []) j k bytes low high is h = omega arith
alone-no_fit (b ∷ c ∷ t) zero k bytes low high is h = omega arith
alone-no_fit (b ∷ c ∷ t) (suc zero) k bytes low high is h = omega arith
alone-no_fit (b ∷ c ∷ t) (suc (suc j)) k bytes low high is h = two-follow b c k (take j t) (bytes 0) (bytes 1) is h

alone-no_longer : (t : List ℕ) (j k : ℕ) → AreBytes t → 0 < length t → 1 < j → j ≤ length t → is_alone (get_or t 0 0) ≡ true → IsLeaf k (take j t) → ⊥
alone-no_longer t j k bytes some low high is (word w e) = word-not_over t j 0 (some-more 1 j low) high is w
alone-no_longer t j k bytes some low high is (other h) = alone-no_fit t j k bytes low high is h

-- a leaf before such a character is one in any text that goes on otherwise behind the character
pub leaf-agree : (s t : List ℕ) (n class m : ℕ) → AreBytes t → Agree s t n → m < n → 0 < m → is_alone (get_or s (n - 1) 0) ≡ true
    → IsNextLeaf s class m → IsNextLeaf t class m
leaf-agree s t n class m bytes h less some alone next =
    let front = agree-front s t n m h (omega arith) in
    let alone_here : is_alone (get_or t (n - 1) 0) ≡ true = ap (λ b. is_alone b) (sym (agree-at s t n (n - 1) h (omega arith))) ∙ alone in
    let is = subst (λ x. IsLeaf class x) front next.longest.is in
    record {
      place = place-agree s t n h (omega arith) next.place;
      longest = record {
        is = is;
        inside = let i = h.other_inside in omega arith;
        longest = λ j k low high other_leaf. elim (cases_lt n j) [
          | inl over ↦ none-over t m (n - 1) j class k bytes (let i = h.other_inside in omega arith) (omega arith) (omega arith) high alone_here is other_leaf
          | inr within ↦
              next.longest.longest j k low (let i = h.inside in omega arith) (subst (λ x. IsLeaf k x) (sym (agree-front s t n j h within)) other_leaf)
        ];
      };
      accepted = λ e. subst (λ x. NoneRefused literal_refused x) front (next.accepted e);
    }

-- and so is such a character itself
pub alone-agree : (s t : List ℕ) (class : ℕ) → AreBytes t → Agree s t 1 → is_alone (get_or s 0 0) ≡ true → IsNextLeaf s class 1 → IsNextLeaf t class 1
alone-agree s t class bytes h alone next =
    let first = agree-at s t 1 0 h (omega arith) in
    let alone_here : is_alone (get_or t 0 0) ≡ true = ap (λ b. is_alone b) (sym first) ∙ alone in
    let front = agree-front s t 1 1 h (omega arith) in
    let some : 0 < length t = let i = h.other_inside in omega arith in
    record {
      place = record {
        some = some;
        not_white = ap (λ b. is_white b) (sym first) ∙ next.place.not_white;
        not_comment = alone-no_comment t alone_here;
      };
      longest = record {
        is = subst (λ x. IsLeaf class x) front next.longest.is;
        inside = h.other_inside;
        longest = λ j k low high leaf_here. alone-no_longer t j k bytes some low high alone_here leaf_here;
      };
      accepted = λ e. subst (λ x. NoneRefused literal_refused x) front (next.accepted e);
    }

-- ---- the leaves up to such a character

-- a list that is cut behind some leaf
pub data Cut (x : Leaf) (xs front : List Leaf) (l : Leaf) (more : List Leaf) : Type 0 where
  here : front ≡ [] → x ≡ l → xs ≡ more → Cut x xs front l more
  later : (fs : List Leaf) → front ≡ x ∷ fs → xs ≡ fs ++ l ∷ more → Cut x xs front l more

pub cut-list : (x : Leaf) (xs front : List Leaf) (l : Leaf) (more : List Leaf) → x ∷ xs ≡ front ++ l ∷ more → Cut x xs front l more
cut-list x xs [] l more e = here refl (cc) (cc)
cut-list x xs (f ∷ fs) l more e =
    let head : x ≡ f = cc in
    let tail : xs ≡ fs ++ l ∷ more = cc in
    later fs (ap (λ y. y ∷ fs) (sym head)) tail

pub nothing-cut : (fs : List Leaf) (l : Leaf) (more : List Leaf) → [] ≡ fs ++ l ∷ more → ⊥
nothing-cut [] l more e = cc
nothing-cut (f ∷ fs) l more e = cc

pub not-end : (from at : ℕ) (fs more : List Leaf) (l : Leaf) → l.to ≡ l.from + 1 → Cut (end_leaf from at) [] fs l more → ⊥
not-end from at fs more l one (here e is rest) = let to_is = ap (λ (x : Leaf). x.to) is in let from_is = ap (λ (x : Leaf). x.from) is in omega arith
not-end from at fs more l one (later gs e rest) = nothing-cut gs l more rest

-- where such a leaf stands in a text that begins at byte `at`
pub record Inside (at : ℕ) (s : List ℕ) (l : Leaf) : Type 0 where
  pub low : at ≤ l.from
  pub high : l.to ≤ at + length s

stands-leaf : (from at : ℕ) (s : List ℕ) (front more leaves : List Leaf) (l : Leaf) (class n : ℕ) → n ≤ length s → l.to ≡ l.from + 1
    → ((fs : List Leaf) → leaves ≡ fs ++ l ∷ more → Inside (at + n) (drop n s) l)
    → Cut (leaf_record from at (at + n) class) leaves front l more → Inside at s l
stands-leaf from at s front more leaves l class n fits one further (here e is rest) =
    let to_is = ap (λ (x : Leaf). x.to) is in
    let from_is = ap (λ (x : Leaf). x.from) is in
    record { low = omega arith; high = omega arith }
stands-leaf from at s front more leaves l class n fits one further (later fs e rest) =
    let r = further fs rest in
    record { low = let i = r.low in omega arith; high = let i = r.high in omega (arith, length-drop n s) }

pub stands : (broken : Bool) (from at : ℕ) (s : List ℕ) (ls front more : List Leaf) (l : Leaf) (a : Option Bad) → Cuts broken from at s ls a → ls ≡ front ++ l ∷ more
    → l.to ≡ l.from + 1 → Inside at s l
stands broken from at s ls front more l a (passed n blank c) e one =
    let r = stands broken from (at + n) (drop n s) ls front more l a c e one in
    let fits = blank-inside s n blank in
    record { low = let i = r.low in omega arith; high = let i = r.high in omega (arith, length-drop n s) }
stands broken from at s ls front more l a (leaf {leaves = leaves} class n next c) e one =
    stands-leaf from at s front more leaves l class n next.longest.inside one
    (λ fs rest. stands broken (at + n) (at + n) (drop n s) leaves fs more l a c rest one)
    (cut-list (leaf_record from at (at + n) class) leaves front l more e)
stands broken from at s ls front more l a (ended x y) e one = absurd (not-end from at front more l one (cut-list (end_leaf from at) [] front l more e))
stands broken from at s ls front more l a (stopped n cause h) e one =
    absurd (not-end from (at + n) front more l one (cut-list (end_leaf from (at + n)) [] front l more e))

-- the second cut takes the same step where the first passes something over
pass-alike : (second : Bool) (from at : ℕ) (t : List ℕ) (front ms : List Leaf) (l : Leaf) (b : Option Bad) (n : ℕ) → AreBytes t → IsBlank t n
    → ((ns : List Leaf) → Cuts second from (at + n) (drop n t) ns b → LeavesBeginWith ns front l) → Cuts second from at t ms b → LeavesBeginWith ms front l
pass-alike second from at t front ms l b n bytes blank further (passed m other_blank d) =
    let e = blank-one second t n m bytes blank other_blank in
    further ms (subst (λ k. Cuts second from (at + k) (drop k t) ms b) (sym e) d)
pass-alike second from at t front ms l b n bytes blank further (leaf {leaves = others} j m next d) = absurd (blank-not_leaf second t n j m bytes blank next)
pass-alike second from at t front ms l b n bytes blank further (ended e x) = absurd (blank-not_end second t n bytes blank e x)
pass-alike second from at t front ms l b n bytes blank further (stopped m cause h) = absurd (blank-not_bad second t n m cause bytes blank h)

-- and where the first cuts a leaf
leaf-alike : (second : Bool) (from at : ℕ) (t : List ℕ) (ms : List Leaf) (b : Option Bad) (class n : ℕ) → AreBytes t → IsNextLeaf t class n
    → Cuts second from at t ms b → (ns : List Leaf) × (ms ≡ leaf_record from at (at + n) class ∷ ns) × Cuts second (at + n) (at + n) (drop n t) ns b
leaf-alike second from at t ms b class n bytes next (passed m blank d) = absurd (blank-not_leaf second t m class n bytes blank next)
leaf-alike second from at t ms b class n bytes next (leaf {leaves = others} j m other_next d) =
    let e = next-size_one second t class j n m bytes next other_next in
    let f = next-class_one second t class j n m bytes next other_next in
    (others, ap (λ x. x ∷ others) (sym (leaf-is from at n m class j e f)), subst (λ k. Cuts second (at + k) (at + k) (drop k t) others b) (sym e) d)
leaf-alike second from at t ms b class n bytes next (ended e x) = absurd (leaf-not_end second t class n bytes next e x)
leaf-alike second from at t ms b class n bytes next (stopped m cause h) = absurd (leaf-not_bad second t class n m cause bytes next h)

pub place-is : (at n k : ℕ) → at + n ≤ k → n + (k - (at + n)) ≡ k - at
place-is at n k h = omega arith

minus-is : (at n k : ℕ) → at + n ≤ k → (k - at) - n ≡ k - (at + n)
minus-is at n k h = omega arith

minus-low : (at n k : ℕ) → at + n ≤ k → n ≤ k - at
minus-low at n k h = omega arith

pub weaker-to : (at n f k : ℕ) → at + n ≤ f → k ≡ f + 1 → at + n ≤ k
weaker-to at n f k h e = omega arith

pub last-is : (at n f k : ℕ) → at + n ≤ f → k ≡ f + 1 → (k - at) - 1 ≡ f - at
last-is at n f k h e = omega arith

front-inside : (n : ℕ) (s t : List ℕ) → n ≤ length s → length (take n s) ≡ length (take n t) → n ≤ length t
front-inside n s t h e = omega (arith, length-take-le n s h, length-take n t)

-- a character behind the first bytes
pub alone-drop : (s : List ℕ) (at n k : ℕ) → at + n ≤ k → is_alone (get_or s (k - at) 0) ≡ true → is_alone (get_or (drop n s) (k - (at + n)) 0) ≡ true
alone-drop s at n k h is = ap (λ b. is_alone b) (get_or-drop n s (k - (at + n)) 0 ∙ ap (λ i. get_or s i 0) (place-is at n k h)) ∙ is

pub agree-rest : (s t : List ℕ) (at n k : ℕ) → at + n ≤ k → Agree s t (k - at) → Agree (drop n s) (drop n t) (k - (at + n))
agree-rest s t at n k h agree = subst (λ i. Agree (drop n s) (drop n t) i) (minus-is at n k h) (agree-drop s t (k - at) n agree (minus-low at n k h))

here-list : (ms front : List Leaf) (x l : Leaf) (ns : List Leaf) → ms ≡ x ∷ ns → x ≡ l → front ≡ [] → ms ≡ front ++ l ∷ ns
here-list ms front x l ns e f g = e ∙ ap (λ y. y ∷ ns) f ∙ ap (λ y. y ++ l ∷ ns) (sym g)

later-list : (ms front fs : List Leaf) (x l : Leaf) (ns rest : List Leaf) → ms ≡ x ∷ ns → ns ≡ fs ++ l ∷ rest → front ≡ x ∷ fs → ms ≡ front ++ l ∷ rest
later-list ms front fs x l ns rest e f g = e ∙ ap (λ y. x ∷ y) f ∙ ap (λ y. y ++ l ∷ rest) (sym g)

here-alike : (second : Bool) (from at : ℕ) (s t : List ℕ) (front more leaves ms : List Leaf) (l : Leaf) (b : Option Bad) (class n : ℕ) → AreBytes t → IsNextLeaf s class n
    → l.to ≡ l.from + 1 → is_alone (get_or s (l.from - at) 0) ≡ true → Agree s t (l.to - at)
    → ((fs ns : List Leaf) → leaves ≡ fs ++ l ∷ more → Cuts second (at + n) (at + n) (drop n t) ns b → LeavesBeginWith ns fs l)
    → ((fs : List Leaf) → leaves ≡ fs ++ l ∷ more → at + n ≤ l.from)
    → Cuts second from at t ms b → Cut (leaf_record from at (at + n) class) leaves front l more → LeavesBeginWith ms front l
here-alike second from at s t front more leaves ms l b class n bytes next one alone agree further low d (here e is rest) =
    let to_is : at + n ≡ l.to = ap (λ (x : Leaf). x.to) is in
    let from_is : at ≡ l.from = ap (λ (x : Leaf). x.from) is in
    let size : n ≡ 1 = omega arith in
    let width : l.to - at ≡ 1 = omega arith in
    let start : l.from - at ≡ 0 = omega arith in
    let next_one = subst (λ k. IsNextLeaf s class k) size next in
    let agree_one = subst (λ k. Agree s t k) width agree in
    let alone_here : is_alone (get_or s 0 0) ≡ true = ap (λ k. is_alone (get_or s k 0)) (sym start) ∙ alone in
    let other_next = subst (λ k. IsNextLeaf t class k) (sym size) (alone-agree s t class bytes agree_one alone_here next_one) in
    let r = leaf-alike second from at t ms b class n bytes other_next d in
    (r.0, here-list ms front (leaf_record from at (at + n) class) l r.0 r.1 is e)
here-alike second from at s t front more leaves ms l b class n bytes next one alone agree further low d (later fs e rest) =
    let behind = low fs rest in
    let some = next-some s class n next in
    let before : n < l.to - at = omega arith in
    let alone_here : is_alone (get_or s ((l.to - at) - 1) 0) ≡ true = ap (λ k. is_alone (get_or s k 0)) (last-is at n l.from l.to behind one) ∙ alone in
    let other_next = leaf-agree s t (l.to - at) class n bytes agree before some alone_here next in
    let r = leaf-alike second from at t ms b class n bytes other_next d in
    let v = further fs r.0 rest r.2 in
    (v.0, later-list ms front fs (leaf_record from at (at + n) class) l r.0 v.0 r.1 v.1 e)

pub alike : (broken second : Bool) (from at : ℕ) (s t : List ℕ) (ls front more ms : List Leaf) (l : Leaf) (a b : Option Bad) → AreBytes t
    → Cuts broken from at s ls a → ls ≡ front ++ l ∷ more → l.to ≡ l.from + 1 → is_alone (get_or s (l.from - at) 0) ≡ true
    → Agree s t (l.to - at) → Cuts second from at t ms b → LeavesBeginWith ms front l
alike broken second from at s t ls front more ms l a b bytes (passed n blank c) e one alone agree d =
    let r = stands broken from (at + n) (drop n s) ls front more l a c e one in
    let behind = r.low in
    let before : n < l.to - at = omega arith in
    pass-alike second from at t front ms l b n bytes (blank-agree s t (l.to - at) n agree before blank)
    (λ ns f. alike broken second from (at + n) (drop n s) (drop n t) ls front more ns l a b (bytes-drop n t bytes) c e one
    (alone-drop s at n l.from behind alone) (agree-rest s t at n l.to (weaker-to at n l.from l.to behind one) agree) f) d
alike broken second from at s t ls front more ms l a b bytes (leaf {leaves = leaves} class n next c) e one alone agree d =
    here-alike second from at s t front more leaves ms l b class n bytes next one alone agree
    (λ fs ns rest f.
    let behind = (stands broken (at + n) (at + n) (drop n s) leaves fs more l a c rest one).low in
    alike broken second (at + n) (at + n) (drop n s) (drop n t) leaves fs more ns l a b (bytes-drop n t bytes) c rest one
    (alone-drop s at n l.from behind alone) (agree-rest s t at n l.to (weaker-to at n l.from l.to behind one) agree) f)
    (λ fs rest. (stands broken (at + n) (at + n) (drop n s) leaves fs more l a c rest one).low)
    d (cut-list (leaf_record from at (at + n) class) leaves front l more e)
alike broken second from at s t ls front more ms l a b bytes (ended x y) e one alone agree d =
    absurd (not-end from at front more l one (cut-list (end_leaf from at) [] front l more e))
alike broken second from at s t ls front more ms l a b bytes (stopped n cause h) e one alone agree d =
    absurd (not-end from (at + n) front more l one (cut-list (end_leaf from (at + n)) [] front l more e))

-- the same of texts that agree on their first bytes alone
pub cut-alike : (broken second : Bool) (from at : ℕ) (s t : List ℕ) (front more ms : List Leaf) (l : Leaf) (a b : Option Bad) → AreBytes t
    → Cuts broken from at s (front ++ l ∷ more) a → IsAloneAt at s l → take (l.to - at) s ≡ take (l.to - at) t → Cuts second from at t ms b
    → LeavesBeginWith ms front l
cut-alike broken second from at s t front more ms l a b bytes c alone same d =
    let r = stands broken from at s (front ++ l ∷ more) front more l a c refl alone.one in
    let inside : l.to - at ≤ length s = let i = r.high in omega arith in
    let second_inside : l.to - at ≤ length t = front-inside (l.to - at) s t inside (ap length same) in
    alike broken second from at s t (front ++ l ∷ more) front more ms l a b bytes c refl alone.one alone.is
    (record { same = same; inside = inside; other_inside = second_inside }) d
