-- Runs of characters.
use Rattle.std.proofs.Common.{◌≡◌, ℕ, suc, zero, ◌<◌, ◌≤◌, inl, inr, Bool, true, false, List, [], ◌∷◌, length, drop, get_or, refl, sym, ◌∙◌, ap, arith}
use Rattle.std.proofs.lemmas.Bool.{cases_lt}
use Rattle.std.proofs.lemmas.List.{drop_more, drop_all}
use Rattle.yaml_lex.specs.Characters.{begins}
use Rattle.yaml_lex.specs.Scalars.{IsRun}

pub not-both : (x : Bool) → x ≡ true → x ≡ false → ⊥
not-both x e f = absurd (let g : true ≡ false = sym e ∙ f in cc)

pub begins-at : (p : ℕ → Bool) (s : List ℕ) (n : ℕ) → n < length s → begins p (drop n s) ≡ p (get_or s n 0)
begins-at p s n low = ap (begins p) (drop_more s n 0 low)

pub begins-end : (p : ℕ → Bool) (s : List ℕ) (n : ℕ) → length s ≤ n → begins p (drop n s) ≡ false
begins-end p s n past = ap (begins p) (drop_all n s past)

no-longer : (p : ℕ → Bool) (s : List ℕ) (m n : ℕ) → IsRun p s m → IsRun p s n → m < n → ⊥
no-longer p s m n f g less =
    let low : m < length s = omega (arith, g.inside) in
    not-both (p (get_or s m 0)) (g.all m less) (sym (begins-at p s m low) ∙ f.ends)

-- a text begins with one run
pub run-one : (p : ℕ → Bool) (s : List ℕ) (m n : ℕ) → IsRun p s m → IsRun p s n → m ≡ n
run-one p s m n f g = elim (cases_lt m n) [
  | inl less ↦ absurd (no-longer p s m n f g less)
  | inr most ↦ elim (cases_lt n m) [ inl less ↦ absurd (no-longer p s n m g f less) | inr least ↦ omega arith ]
]

suc-less : (k n : ℕ) → suc k < suc n → k < n
suc-less k n h = omega arith

all-more : (p : ℕ → Bool) (b n : ℕ) (s : List ℕ) → p b ≡ true → ((k : ℕ) → k < n → p (get_or s k 0) ≡ true) → (k : ℕ) → k < suc n → p (get_or (b ∷ s) k 0) ≡ true
all-more p b n s e all zero low = e
all-more p b n s e all (suc k) low = all k (suc-less k n low)

run-cons : (p : ℕ → Bool) (b : ℕ) (s : List ℕ) (v : Bool) → p b ≡ v → ((n : ℕ) × IsRun p s n) → (n : ℕ) × IsRun p (b ∷ s) n
run-cons p b s true e r = (suc r.0, record { inside = let h = r.1.inside in omega arith; all = all-more p b r.0 s e r.1.all; ends = r.1.ends })
run-cons p b s false e r = (0, record { inside = omega arith; all = λ k low. absurd (omega arith); ends = e })

-- a text begins with a run
pub run-of : (p : ℕ → Bool) (s : List ℕ) → (n : ℕ) × IsRun p s n
run-of p [] = (0, record { inside = omega arith; all = λ k low. absurd (omega arith); ends = refl })
run-of p (b ∷ s) = run-cons p b s (p b) refl (run-of p s)

-- a run of none
pub none-runs : (p : ℕ → Bool) (s : List ℕ) (m n : ℕ) → IsRun p s n → n ≡ 0 → IsRun p s m → 0 < m → ⊥
none-runs p s m n f z g some = let e = run-one p s m n g f in omega arith
