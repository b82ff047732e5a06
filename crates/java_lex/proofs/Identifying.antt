-- When a whole text is an identifier.
use Rattle.std.proofs.Common.{◌≡◌, ℕ, ◌<◌, ◌≤◌, ◌⊎◌, inl, inr, Bool, true, false, eqb, ◌||◌, List, [], ◌∷◌, length, take, refl, sym, ◌∙◌, ap, subst, arith}
use Rattle.std.proofs.lemmas.Bool.{cases_lt}
use Rattle.std.proofs.lemmas.Bool.Decides.{nat_tests}
use Rattle.std.proofs.lemmas.List.{take_all}
use Rattle.std.proofs.Math.Seq.{take-length}
use Rattle.std.specs.Prelude.{IsTrue, nat_eq, ◌↔◌}
use Rattle.rw_base.specs.Expressions.{Expression}
use Rattle.java_lex.specs.declared.class.TheConstants.{ID}
use Rattle.java_lex.specs.Kinds.{kinds, Fits, IsLeaf, word, other}
use Rattle.java_lex.specs.Words.{IsWord, word_class}
use Rattle.java_lex.specs.Scanning.{IsWordSize}
use Rattle.java_lex.proofs.Pieces.{no-empty-word}

-- ---- only words are identifiers

has_class : ℕ → List (ℕ × Expression) → Bool
has_class k [] = false
has_class k (kind ∷ rest) = eqb k kind.0 || has_class k rest

kinds_not_id : has_class ID kinds ≡ false
unfolding kinds has_class
kinds_not_id = refl

eqb-same : (m n : ℕ) → m ≡ n → eqb m n ≡ true
eqb-same m n e = grind (arith, nat_tests)

or-right : (v w : Bool) → w ≡ true → (v || w) ≡ true
or-right true w e = refl
or-right false w e = e

or-left : (v w : Bool) → v ≡ true → (v || w) ≡ true
or-left v w e = ap (λ x. x || w) e

fits-class : (k : ℕ) (ks : List (ℕ × Expression)) (s : List ℕ) → Fits k ks s → has_class k ks ≡ true
unfolding has_class
fits-class k [] s h = absurd h
fits-class k (kind ∷ rest) s h = elim h [
  | inl a ↦ or-left (eqb k kind.0) (has_class k rest) (eqb-same k kind.0 a.0)
  | inr b ↦ or-right (eqb k kind.0) (has_class k rest) (fits-class k rest s b)
]

other-not_id : (s : List ℕ) → Fits ID kinds s → ⊥
other-not_id s h = let e : true ≡ false = sym (fits-class ID kinds s h) ∙ kinds_not_id in cc

nat_eq-is : (m n : ℕ) → IsTrue (nat_eq m n) → m ≡ n
nat_eq-is m n e = grind (arith, nat_tests)

nat_eq-from : (m n : ℕ) → m ≡ n → IsTrue (nat_eq m n)
nat_eq-from m n e = grind (arith, nat_tests)

-- ---- where the word at the front of a text is the whole

pub identifier-word : (s : List ℕ) → IsLeaf ID s → IsWord s × (word_class s ≡ ID)
identifier-word s (word w e) = (w, sym e)
identifier-word s (other h) = absurd (other-not_id s h)

pub whole-word : (s : List ℕ) (n : ℕ) → IsWordSize s n → (n ≡ 0 → ⊥) → length s ≤ n → IsWord s
whole-word s n h some long = subst (λ t. IsWord t) (take_all n s long) (h.some (omega arith))

pub no-identifier : (s : List ℕ) (n : ℕ) → IsWordSize s n → (n ≡ 0) ⊎ (n < length s) → IsLeaf ID s → ⊥
no-identifier s n h less is =
    let w = (identifier-word s is).0 in
    let whole : IsWord (take (length s) s) = subst (λ t. IsWord t) (sym (take-length s)) w in
    elim (cases_lt n (length s)) [
      | inl more ↦ h.longest (length s) more (omega arith) whole
      | inr least ↦ elim less [
        | inl none ↦ let e : length s ≡ 0 = omega arith in no-empty-word (subst (λ k. IsWord (take k s)) e whole)
        | inr more ↦ omega arith
      ]
    ]

pub is-identifier : (s : List ℕ) (n class : ℕ) → IsWordSize s n → (n ≡ 0 → ⊥) → length s ≤ n → class ≡ word_class s
    → IsTrue (nat_eq class ID) ↔ IsLeaf ID s
is-identifier s n class h some long is = (
  λ e. word (whole-word s n h some long) (sym (nat_eq-is class ID e) ∙ is),
  λ leaf_here. nat_eq-from class ID (is ∙ (identifier-word s leaf_here).1),
)
