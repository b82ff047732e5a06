-- `behind` gives what can follow a byte, and `has_empty` says whether the empty text is one.
use Rattle.std.proofs.Common.{◌≡◌, ℕ, ◌≤◌, ◌⊎◌, inl, inr, Bool, true, false, cond, ◌&&◌, ◌||◌, List, [], ◌∷◌, ◌++◌, eqb, leb, refl, sym, ◌∙◌, ap, subst, arith}
use Rattle.std.proofs.lemmas.Bool.Decides.{nat_tests}
use Rattle.rw_base.specs.Expressions.{Expression, nothing, empty, byte, ◌>>◌, ◌<|>◌, many, Matches, Repeats, none, more}
use Rattle.java_lex.proofs.Derivatives.{has_empty, same, then, either_short, either, behind}

-- ---- the shorter forms

pub either-true : (a b : Bool) → (a && b) ≡ true → (a ≡ true) × (b ≡ true)
either-true true b e = (refl, e)
either-true false b e = (e, absurd (cc))

pub same-is : (r q : Expression) → same r q ≡ true → r ≡ q
same-is nothing nothing e = refl
same-is nothing empty e = absurd (cc)
same-is nothing (byte a b) e = absurd (cc)
same-is nothing (s >> t) e = absurd (cc)
same-is nothing (s <|> t) e = absurd (cc)
same-is nothing (many s) e = absurd (cc)
same-is empty empty e = refl
same-is empty nothing e = absurd (cc)
same-is empty (byte a b) e = absurd (cc)
same-is empty (s >> t) e = absurd (cc)
same-is empty (s <|> t) e = absurd (cc)
same-is empty (many s) e = absurd (cc)
same-is (byte a b) (byte c d) e =
    let w = either-true (eqb a c) (eqb b d) e in
    let one : a ≡ c = grind (arith, nat_tests) in
    let two : b ≡ d = grind (arith, nat_tests) in
    cc
same-is (byte a b) nothing e = absurd (cc)
same-is (byte a b) empty e = absurd (cc)
same-is (byte a b) (s >> t) e = absurd (cc)
same-is (byte a b) (s <|> t) e = absurd (cc)
same-is (byte a b) (many s) e = absurd (cc)
same-is (r >> q) (s >> t) e =
    let w = either-true (same r s) (same q t) e in
    let one = same-is r s w.0 in
    let two = same-is q t w.1 in
    cc
same-is (r >> q) nothing e = absurd (cc)
same-is (r >> q) empty e = absurd (cc)
same-is (r >> q) (byte a b) e = absurd (cc)
same-is (r >> q) (s <|> t) e = absurd (cc)
same-is (r >> q) (many s) e = absurd (cc)
same-is (r <|> q) (s <|> t) e =
    let w = either-true (same r s) (same q t) e in
    let one = same-is r s w.0 in
    let two = same-is q t w.1 in
    cc
same-is (r <|> q) nothing e = absurd (cc)
same-is (r <|> q) empty e = absurd (cc)
same-is (r <|> q) (byte a b) e = absurd (cc)
same-is (r <|> q) (s >> t) e = absurd (cc)
same-is (r <|> q) (many s) e = absurd (cc)
same-is (many r) (many s) e = ap (λ x. many x) (same-is r s e)
same-is (many r) nothing e = absurd (cc)
same-is (many r) empty e = absurd (cc)
same-is (many r) (byte a b) e = absurd (cc)
same-is (many r) (s >> t) e = absurd (cc)
same-is (many r) (s <|> t) e = absurd (cc)

-- a text of two expressions, one behind the other
abbrev pub Both : Expression → Expression → List ℕ → Type 0
Both r q s = (x : List ℕ) × (y : List ℕ) × (s ≡ x ++ y) × Matches r x × Matches q y

pub then-to : (r q : Expression) (s : List ℕ) → Both r q s → Matches (then r q) s
then-to nothing q s h = h.3
then-to empty q s h = subst (λ t. Matches q t) (sym (h.2 ∙ ap (λ x. x ++ h.1) h.3)) h.4
then-to (byte a b) q s h = h
then-to (r >> t) q s h = h
then-to (r <|> t) q s h = h
then-to (many r) q s h = h

pub then-from : (r q : Expression) (s : List ℕ) → Matches (then r q) s → Both r q s
then-from nothing q s h = absurd h
then-from empty q s h = ([], s, refl, refl, h)
then-from (byte a b) q s h = h
then-from (r >> t) q s h = h
then-from (r <|> t) q s h = h
then-from (many r) q s h = h

short-cond-to : (v : Bool) (r q : Expression) (s : List ℕ) → (v ≡ true → r ≡ q) → Matches r s ⊎ Matches q s → Matches (cond v r (r <|> q)) s
short-cond-to true r q s same_is h = elim h [ inl a ↦ a | inr b ↦ subst (λ t. Matches t s) (sym (same_is refl)) b ]
short-cond-to false r q s same_is h = h

short-cond-from : (v : Bool) (r q : Expression) (s : List ℕ) → Matches (cond v r (r <|> q)) s → Matches r s ⊎ Matches q s
short-cond-from true r q s h = inl h
short-cond-from false r q s h = h

either_short-to : (r q : Expression) (s : List ℕ) → Matches r s ⊎ Matches q s → Matches (either_short r q) s
either_short-to r nothing s h = elim h [ inl a ↦ a | inr b ↦ absurd b ]
either_short-to r empty s h = short-cond-to (same r empty) r empty s (same-is r empty) h
either_short-to r (byte a b) s h = short-cond-to (same r (byte a b)) r (byte a b) s (same-is r (byte a b)) h
either_short-to r (q >> t) s h = short-cond-to (same r (q >> t)) r (q >> t) s (same-is r (q >> t)) h
either_short-to r (q <|> t) s h = short-cond-to (same r (q <|> t)) r (q <|> t) s (same-is r (q <|> t)) h
either_short-to r (many q) s h = short-cond-to (same r (many q)) r (many q) s (same-is r (many q)) h

either_short-from : (r q : Expression) (s : List ℕ) → Matches (either_short r q) s → Matches r s ⊎ Matches q s
either_short-from r nothing s h = inl h
either_short-from r empty s h = short-cond-from (same r empty) r empty s h
either_short-from r (byte a b) s h = short-cond-from (same r (byte a b)) r (byte a b) s h
either_short-from r (q >> t) s h = short-cond-from (same r (q >> t)) r (q >> t) s h
either_short-from r (q <|> t) s h = short-cond-from (same r (q <|> t)) r (q <|> t) s h
either_short-from r (many q) s h = short-cond-from (same r (many q)) r (many q) s h

pub either-to : (r q : Expression) (s : List ℕ) → Matches r s ⊎ Matches q s → Matches (either r q) s
either-to nothing q s h = elim h [ inl a ↦ absurd a | inr b ↦ b ]
either-to empty q s h = either_short-to empty q s h
either-to (byte a b) q s h = either_short-to (byte a b) q s h
either-to (r >> t) q s h = either_short-to (r >> t) q s h
either-to (r <|> t) q s h = either_short-to (r <|> t) q s h
either-to (many r) q s h = either_short-to (many r) q s h

pub either-from : (r q : Expression) (s : List ℕ) → Matches (either r q) s → Matches r s ⊎ Matches q s
either-from nothing q s h = inr h
either-from empty q s h = either_short-from empty q s h
either-from (byte a b) q s h = either_short-from (byte a b) q s h
either-from (r >> t) q s h = either_short-from (r >> t) q s h
either-from (r <|> t) q s h = either_short-from (r <|> t) q s h
either-from (many r) q s h = either_short-from (many r) q s h

-- ---- the empty text

nil-split : (x y : List ℕ) → [] ≡ x ++ y → (x ≡ []) × (y ≡ [])
nil-split [] y e = (refl, sym e)
nil-split (a ∷ x) y e = absurd (cc)

pub and-true : (a b : Bool) → a ≡ true → b ≡ true → (a && b) ≡ true
and-true true b e f = f
and-true false b e f = e

pub or-true : (a b : Bool) → (a || b) ≡ true → (a ≡ true) ⊎ (b ≡ true)
or-true true b e = inl refl
or-true false b e = inr e

or-true_left : (a b : Bool) → a ≡ true → (a || b) ≡ true
or-true_left true b e = refl
or-true_left false b e = absurd (cc)

or-true_right : (a b : Bool) → b ≡ true → (a || b) ≡ true
or-true_right true b e = refl
or-true_right false b e = e

pub has_empty-from : (r : Expression) → Matches r [] → has_empty r ≡ true
has_empty-from nothing h = absurd h
has_empty-from empty h = refl
has_empty-from (byte a b) h = let e : [] ≡ h.0 ∷ [] = h.1 in absurd (cc)
has_empty-from (r >> q) h =
    let w = nil-split h.0 h.1 h.2 in
    and-true (has_empty r) (has_empty q)
    (has_empty-from r (subst (λ t. Matches r t) w.0 h.3))
    (has_empty-from q (subst (λ t. Matches q t) w.1 h.4))
has_empty-from (r <|> q) h = elim h [
  | inl a ↦ or-true_left (has_empty r) (has_empty q) (has_empty-from r a)
  | inr b ↦ or-true_right (has_empty r) (has_empty q) (has_empty-from q b)
]
has_empty-from (many r) h = refl

pub has_empty-to : (r : Expression) → has_empty r ≡ true → Matches r []
has_empty-to nothing e = absurd (cc)
has_empty-to empty e = refl
has_empty-to (byte a b) e = absurd (cc)
has_empty-to (r >> q) e =
    let w = either-true (has_empty r) (has_empty q) e in
    ([], [], refl, has_empty-to r w.0, has_empty-to q w.1)
has_empty-to (r <|> q) e = elim (or-true (has_empty r) (has_empty q) e) [ inl a ↦ inl (has_empty-to r a) | inr b ↦ inr (has_empty-to q b) ]
has_empty-to (many r) e = none refl

-- ---- behind a byte

split : (b : ℕ) (s x y : List ℕ) → b ∷ s ≡ x ++ y
    → ((x ≡ []) × (y ≡ b ∷ s)) ⊎ ((x' : List ℕ) × (x ≡ b ∷ x') × (s ≡ x' ++ y))
split b s [] y e = inl (refl, sym e)
split b s (a ∷ x) y e = inr (x, (cc), (cc))

-- the first of many that isn't empty
many-to : (b : ℕ) (P Q : List ℕ → Type 0) → ((x : List ℕ) → P (b ∷ x) → Q x) → (t s : List ℕ) → Repeats P t → t ≡ b ∷ s
    → (x : List ℕ) × (y : List ℕ) × (s ≡ x ++ y) × Q x × Repeats P y
many-to b P Q f t s (none e) is = absurd (cc)
many-to b P Q f t s (more x y e p rest) is = elim (split b s x y (sym is ∙ e)) [
  | inl w ↦ many-to b P Q f y s rest w.1
  | inr w ↦ (w.0, y, w.2, f w.0 (subst P w.1 p), rest)
]

seq-to : (v : Bool) (r q d : Expression) (s : List ℕ) → Both r q s ⊎ ((v ≡ true) × Matches d s)
    → Matches (cond v (either (then r q) d) (then r q)) s
seq-to true r q d s h = either-to (then r q) d s (elim h [ inl a ↦ inl (then-to r q s a) | inr b ↦ inr b.1 ])
seq-to false r q d s h = elim h [ inl a ↦ then-to r q s a | inr b ↦ absurd (let e : false ≡ true = b.0 in cc) ]

seq-from : (v : Bool) (r q d : Expression) (s : List ℕ) → Matches (cond v (either (then r q) d) (then r q)) s
    → Both r q s ⊎ ((v ≡ true) × Matches d s)
seq-from true r q d s h = elim (either-from (then r q) d s h) [ inl a ↦ inl (then-from r q s a) | inr b ↦ inr (refl, b) ]
seq-from false r q d s h = inl (then-from r q s h)

byte-to : (v : Bool) (s : List ℕ) → v ≡ true → s ≡ [] → Matches (cond v empty nothing) s
byte-to true s e is = is
byte-to false s e is = absurd (cc)

byte-from : (v : Bool) (s : List ℕ) → Matches (cond v empty nothing) s → (v ≡ true) × (s ≡ [])
byte-from true s h = (refl, h)
byte-from false s h = absurd h

pub behind-to : (b : ℕ) (r : Expression) (s : List ℕ) → Matches r (b ∷ s) → Matches (behind b r) s
behind-to b nothing s h = h
behind-to b empty s h = absurd (let e : b ∷ s ≡ [] = h in cc)
behind-to b (byte least most) s h =
    let e : b ∷ s ≡ h.0 ∷ [] = h.1 in
    let one : b ≡ h.0 = cc in
    let none_left : s ≡ [] = cc in
    let low : least ≤ h.0 = h.2 in
    let high : h.0 ≤ most = h.3 in
    byte-to (leb least b && leb b most) s
    (and-true (leb least b) (leb b most) (grind (arith, nat_tests)) (grind (arith, nat_tests))) none_left
behind-to b (r >> q) s h = seq-to (has_empty r) (behind b r) q (behind b q) s (elim (split b s h.0 h.1 h.2) [
  | inl w ↦ inr (has_empty-from r (subst (λ t. Matches r t) w.0 h.3), behind-to b q s (subst (λ t. Matches q t) w.1 h.4))
  | inr w ↦ inl (w.0, h.1, w.2, behind-to b r w.0 (subst (λ t. Matches r t) w.1 h.3), h.4)
])
behind-to b (r <|> q) s h =
    either-to (behind b r) (behind b q) s (elim h [ inl a ↦ inl (behind-to b r s a) | inr c ↦ inr (behind-to b q s c) ])
behind-to b (many r) s h =
    then-to (behind b r) (many r) s (many-to b (λ x. Matches r x) (λ x. Matches (behind b r) x) (λ x. behind-to b r x) (b ∷ s) s h refl)

pub behind-from : (b : ℕ) (r : Expression) (s : List ℕ) → Matches (behind b r) s → Matches r (b ∷ s)
behind-from b nothing s h = h
behind-from b empty s h = absurd h
behind-from b (byte least most) s h =
    let w = byte-from (leb least b && leb b most) s h in
    let v = either-true (leb least b) (leb b most) w.0 in
    let none_left : s ≡ [] = w.1 in
    (b, (cc), grind (arith, nat_tests), grind (arith, nat_tests))
behind-from b (r >> q) s h = elim (seq-from (has_empty r) (behind b r) q (behind b q) s h) [
  | inl w ↦ (b ∷ w.0, w.1, ap (λ t. b ∷ t) w.2, behind-from b r w.0 w.3, w.4)
  | inr w ↦ ([], b ∷ s, refl, has_empty-to r w.0, behind-from b q s w.1)
]
behind-from b (r <|> q) s h =
    elim (either-from (behind b r) (behind b q) s h) [ inl a ↦ inl (behind-from b r s a) | inr c ↦ inr (behind-from b q s c) ]
behind-from b (many r) s h =
    let w = then-from (behind b r) (many r) s h in
    more (b ∷ w.0) w.1 (ap (λ t. b ∷ t) w.2) (behind-from b r w.0 w.3) w.4
