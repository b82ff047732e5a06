-- The numbers of the classes.
use Rattle.std.proofs.Common.{◌≡◌, ℕ, suc, zero, ◌+◌, ◌<◌, Bool, true, false, ◌&&◌, eqb, List, [], ◌∷◌, length, get_or, refl, ◌∙◌, arith}
use Rattle.std.proofs.lemmas.Bool.Decides.{nat_tests}
use Rattle.yaml_lex.specs.Classes.{classes}

-- the numbers go up one by one
abbrev counts_from : ℕ → List ℕ → Bool
counts_from n [] = true
counts_from n (c ∷ cs) = eqb c n && counts_from (n + 1) cs

classes_count : counts_from 0 classes ≡ true
unfolding classes
classes_count = refl

either-true : (x y : Bool) → (x && y) ≡ true → (x ≡ true) × (y ≡ true)
either-true true true e = (refl, refl)
either-true true false e = absurd (cc)
either-true false y e = absurd (cc)

eqb-is : (m n : ℕ) → eqb m n ≡ true → m ≡ n
eqb-is m n e = grind (arith, nat_tests)

plus-none : (n : ℕ) → n ≡ n + 0
plus-none n = omega arith

plus-one : (n i : ℕ) → (n + 1) + i ≡ n + suc i
plus-one n i = omega arith

low-suc : (i n : ℕ) → suc i < suc n → i < n
low-suc i n h = omega arith

count-at : (n : ℕ) (cs : List ℕ) (i d : ℕ) → counts_from n cs ≡ true → i < length cs → get_or cs i d ≡ n + i
count-at n [] i d e low = absurd (omega arith)
count-at n (c ∷ cs) zero d e low = eqb-is c n (either-true (eqb c n) (counts_from (n + 1) cs) e).0 ∙ plus-none n
count-at n (c ∷ cs) (suc i) d e low =
    count-at (n + 1) cs i d (either-true (eqb c n) (counts_from (n + 1) cs) e).1 (low-suc i (length cs) low) ∙ plus-one n i

pub distinct : (i j d : ℕ) → i < j → j < length classes → get_or classes i d ≡ get_or classes j d → ⊥
distinct i j d less low same =
    let a = count-at 0 classes i d classes_count (omega arith) in
    let b = count-at 0 classes j d classes_count low in
    absurd (omega (arith, a, b, same))
