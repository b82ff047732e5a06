-- What the automaton says of a text.
use Rattle.std.proofs.Common.{◌≡◌, ℕ, suc, zero, ◌+◌, ◌<◌, ◌≤◌, ◌⊎◌, inl, inr, Bool, true, false, cond, not, ◌&&◌, ◌||◌, List, [], ◌∷◌, ◌++◌, eqb, ltb, get_or, refl, ◌∙◌, ap, subst, arith}
use Rattle.std.proofs.lemmas.Bool.Decides.{nat_tests}
use Rattle.std.proofs.lemmas.Bool.{cases_lt}
use Rattle.java_lex.specs.declared.table.TheConstants.{COLUMN}
use Rattle.rw_base.specs.Expressions.{Expression, nothing, empty, byte, ◌>>◌, ◌<|>◌, many, Matches}
use Rattle.java_lex.specs.Kinds.{Fits}
use Rattle.java_lex.specs.Scanning.{next_state, state_class}
use Rattle.java_lex.proofs.Derivatives.{has_empty, same, behind, kept, step, after, same_kinds}
use Rattle.java_lex.proofs.Following.{either-true, same-is, behind-to, behind-from, has_empty-to, has_empty-from}
use Rattle.java_lex.proofs.States.{meaning, endings, all_from, is_right, classes_now, is_one, has_class, goes_inside, is_some, can_end, all_right, all_have_class, all_go_inside, all_can_end, columns_inside}

-- ---- tests of all numbers in a row

pub at_all : (n from : ℕ) (p : ℕ → Bool) → all_from n from p ≡ true → (k : ℕ) → from ≤ k → k < from + n → p k ≡ true
at_all zero from p e k low high = absurd (omega arith)
at_all (suc n) from p e k low high =
    let w = either-true (p from) (all_from n (suc from) p) e in
    let later : suc from ≤ k → p k ≡ true = λ (h : suc from ≤ k). at_all n (suc from) p w.1 k h (omega arith) in
    elim (cases_lt from k) [
      | inl more ↦ later (omega arith)
      | inr least ↦ let same_one : from ≡ k = omega arith in subst (λ j. p j ≡ true) same_one w.0
    ]

pub same_kinds-is : (ps qs : List (ℕ × Expression)) → same_kinds ps qs ≡ true → ps ≡ qs
same_kinds-is [] [] e = refl
same_kinds-is [] (q ∷ qs) e = absurd (cc)
same_kinds-is (p ∷ ps) [] e = absurd (cc)
same_kinds-is (p ∷ ps) (q ∷ qs) e =
    let w = either-true (eqb p.0 q.0 && same p.1 q.1) (same_kinds ps qs) e in
    let v = either-true (eqb p.0 q.0) (same p.1 q.1) w.0 in
    let classes : p.0 ≡ q.0 = grind (arith, nat_tests) in
    let expressions : p.1 ≡ q.1 = same-is p.1 q.1 v.1 in
    let heads : p ≡ q = ap (λ x. (x, p.1)) classes ∙ ap (λ y. (q.0, y)) expressions in
    let tails : ps ≡ qs = same_kinds-is ps qs w.1 in
    cc

-- ---- kinds behind a byte

kept-to : (class k : ℕ) (r : Expression) (rest : List (ℕ × Expression)) (s : List ℕ)
    → ((k ≡ class) × Matches r s) ⊎ Fits k rest s → Fits k (kept class r rest) s
kept-to class k nothing rest s h = elim h [ inl a ↦ absurd a.1 | inr b ↦ b ]
kept-to class k empty rest s h = h
kept-to class k (byte a b) rest s h = h
kept-to class k (r >> q) rest s h = h
kept-to class k (r <|> q) rest s h = h
kept-to class k (many r) rest s h = h

kept-from : (class k : ℕ) (r : Expression) (rest : List (ℕ × Expression)) (s : List ℕ)
    → Fits k (kept class r rest) s → ((k ≡ class) × Matches r s) ⊎ Fits k rest s
kept-from class k nothing rest s h = inr h
kept-from class k empty rest s h = h
kept-from class k (byte a b) rest s h = h
kept-from class k (r >> q) rest s h = h
kept-from class k (r <|> q) rest s h = h
kept-from class k (many r) rest s h = h

pub step-to : (b k : ℕ) (kinds : List (ℕ × Expression)) (s : List ℕ) → Fits k kinds (b ∷ s) → Fits k (step b kinds) s
step-to b k [] s h = h
step-to b k (kind ∷ rest) s h = kept-to kind.0 k (behind b kind.1) (step b rest) s (elim h [
  | inl a ↦ inl (a.0, behind-to b kind.1 s a.1)
  | inr c ↦ inr (step-to b k rest s c)
])

pub step-from : (b k : ℕ) (kinds : List (ℕ × Expression)) (s : List ℕ) → Fits k (step b kinds) s → Fits k kinds (b ∷ s)
step-from b k [] s h = h
step-from b k (kind ∷ rest) s h = elim (kept-from kind.0 k (behind b kind.1) (step b rest) s h) [
  | inl a ↦ inl (a.0, behind-from b kind.1 s a.1)
  | inr c ↦ inr (step-from b k rest s c)
]

pub after-to : (w : List ℕ) (k : ℕ) (kinds : List (ℕ × Expression)) (s : List ℕ) → Fits k kinds (w ++ s) → Fits k (after w kinds) s
after-to [] k kinds s h = h
after-to (b ∷ w) k kinds s h = after-to w k (step b kinds) s (step-to b k kinds (w ++ s) h)

pub after-from : (w : List ℕ) (k : ℕ) (kinds : List (ℕ × Expression)) (s : List ℕ) → Fits k (after w kinds) s → Fits k kinds (w ++ s)
after-from [] k kinds s h = h
after-from (b ∷ w) k kinds s h = step-from b k kinds (w ++ s) (after-from w k (step b kinds) s h)

pub after-push : (w : List ℕ) (b : ℕ) (kinds : List (ℕ × Expression)) → after (w ++ b ∷ []) kinds ≡ step b (after w kinds)
after-push [] b kinds = refl
after-push (a ∷ w) b kinds = after-push w b (step a kinds)

-- ---- the empty text

-- the class is among them
abbrev pub Among : ℕ → List ℕ → Type 0
Among k [] = ⊥
Among k (class ∷ rest) = (k ≡ class) ⊎ Among k rest

now-cond_to : (v : Bool) (k class : ℕ) (rest : List ℕ) → ((k ≡ class) × (v ≡ true)) ⊎ Among k rest → Among k (cond v (class ∷ rest) rest)
now-cond_to true k class rest h = elim h [ inl a ↦ inl a.0 | inr b ↦ inr b ]
now-cond_to false k class rest h = elim h [ inl a ↦ absurd (let e : false ≡ true = a.1 in cc) | inr b ↦ b ]

now-cond_from : (v : Bool) (k class : ℕ) (rest : List ℕ) → Among k (cond v (class ∷ rest) rest) → ((k ≡ class) × (v ≡ true)) ⊎ Among k rest
now-cond_from true k class rest h = elim h [ inl a ↦ inl (a, refl) | inr b ↦ inr b ]
now-cond_from false k class rest h = inr h

pub now-to : (k : ℕ) (kinds : List (ℕ × Expression)) → Fits k kinds [] → Among k (classes_now kinds)
now-to k [] h = h
now-to k (kind ∷ rest) h = now-cond_to (has_empty kind.1) k kind.0 (classes_now rest) (elim h [
  | inl a ↦ inl (a.0, has_empty-from kind.1 a.1)
  | inr b ↦ inr (now-to k rest b)
])

pub now-from : (k : ℕ) (kinds : List (ℕ × Expression)) → Among k (classes_now kinds) → Fits k kinds []
now-from k [] h = h
now-from k (kind ∷ rest) h = elim (now-cond_from (has_empty kind.1) k kind.0 (classes_now rest) h) [
  | inl a ↦ inl (a.0, has_empty-to kind.1 a.1)
  | inr b ↦ inr (now-from k rest b)
]

one-at_most : (class k : ℕ) (found : List ℕ) → is_one class found ≡ true → Among k found → k ≡ class
one-at_most class k [] e h = absurd h
one-at_most class k (c ∷ []) e h =
    let w = either-true (eqb class c) (not (eqb class 0)) e in
    elim h [ inl a ↦ grind (arith, nat_tests) | inr b ↦ absurd b ]
one-at_most class k (c ∷ d ∷ rest) e h = absurd (cc)

one-not_zero : (class k : ℕ) (found : List ℕ) → is_one class found ≡ true → class ≡ 0 → Among k found → ⊥
one-not_zero class k [] e z h = h
one-not_zero class k (c ∷ []) e z h =
    let w = either-true (eqb class c) (not (eqb class 0)) e in
    grind (arith, nat_tests)
one-not_zero class k (c ∷ d ∷ rest) e z h = absurd (cc)

one-is : (class : ℕ) (found : List ℕ) → is_one class found ≡ true → (class ≡ 0 → ⊥) → Among class found
one-is class [] e z = absurd (z (grind (arith, nat_tests)))
one-is class (c ∷ []) e z =
    let w = either-true (eqb class c) (not (eqb class 0)) e in
    inl (grind (arith, nat_tests))
one-is class (c ∷ d ∷ rest) e z = absurd (cc)

-- ---- the states

pub next-right : (q b : ℕ) → q < 109 → b < 256 → step b (meaning q) ≡ meaning (next_state q b)
next-right q b qs bs =
    same_kinds-is (step b (meaning q)) (meaning (next_state q b))
    (at_all 256 0 (λ c. same_kinds (step c (meaning q)) (meaning (next_state q c))) (at_all 109 0 is_right all_right q (omega arith) (omega arith)) b (omega arith) (omega arith))

pub next-inside : (q b : ℕ) → q < 109 → b < 256 → next_state q b < 109
next-inside q b qs bs =
    let e = at_all 256 0 (λ c. ltb (next_state q c) 109) (at_all 109 0 goes_inside all_go_inside q (omega arith) (omega arith)) b (omega arith) (omega arith) in
    grind (arith, nat_tests)

pub column-inside : (b : ℕ) → b < 256 → get_or COLUMN b 0 < 54
column-inside b bs =
    let e = at_all 256 0 (λ c. ltb (get_or COLUMN c 0) 54) columns_inside b (omega arith) (omega arith) in
    grind (arith, nat_tests)

state-one : (q : ℕ) → q < 109 → is_one (state_class q) (classes_now (meaning q)) ≡ true
state-one q qs = at_all 109 0 has_class all_have_class q (omega arith) (omega arith)

-- the class of a state is the only one of the empty text, and 0 where there is none
pub class-only : (q k : ℕ) → q < 109 → Fits k (meaning q) [] → k ≡ state_class q
class-only q k qs h = one-at_most (state_class q) k (classes_now (meaning q)) (state-one q qs) (now-to k (meaning q) h)

pub class-none : (q k : ℕ) → q < 109 → state_class q ≡ 0 → Fits k (meaning q) [] → ⊥
class-none q k qs z h = one-not_zero (state_class q) k (classes_now (meaning q)) (state-one q qs) z (now-to k (meaning q) h)

pub class-is : (q : ℕ) → q < 109 → (state_class q ≡ 0 → ⊥) → Fits (state_class q) (meaning q) []
class-is q qs z = now-from (state_class q) (meaning q) (one-is (state_class q) (classes_now (meaning q)) (state-one q qs) z)

some-among : (found : List ℕ) → is_some found ≡ true → (k : ℕ) × Among k found
some-among [] e = absurd (cc)
some-among (k ∷ rest) e = (k, inl refl)

can-end_some : (q : ℕ) (v : Bool) → (q ≡ 0 → ⊥) → (eqb q 0 || v) ≡ true → v ≡ true
can-end_some q true z e = refl
can-end_some q false z e = absurd (z (grind (arith, nat_tests)))

-- from a state that isn't dead a whole text can follow
pub state-goes_on : (q : ℕ) → q < 109 → (q ≡ 0 → ⊥) → (more : List ℕ) × (k : ℕ) × Fits k (meaning q) more
state-goes_on q qs z =
    let ending = get_or endings q [] in
    let e = can-end_some q (is_some (classes_now (after ending (meaning q)))) z (at_all 109 0 can_end all_can_end q (omega arith) (omega arith)) in
    let w = some-among (classes_now (after ending (meaning q))) e in
    let fits = after-from ending w.0 (meaning q) [] (now-from w.0 (after ending (meaning q)) w.1) in
    (ending ++ [], w.0, fits)
