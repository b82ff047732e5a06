-- Whether codes spell shapes, by the first of them.
use Rattle.std.proofs.Common.{◌≡◌, ℕ, zero, suc, ◌+◌, ◌-◌, ◌<◌, ◌≤◌, true, List, [], ◌∷◌, length, take, drop, slice_index_or, subst, arith}
use Rattle.std.proofs.lemmas.List.{take_all}
use Rattle.rw_grammar.specs.Codes.{spells}

whole : (n m k : ℕ) (cs : List ℕ) → m ≡ n → k ≡ length cs → spells m (take k cs) ≡ true → spells n cs ≡ true
whole n m k cs e f h = subst (λ j. spells j cs ≡ true) e (subst (λ ds. spells m ds ≡ true) (take_all k cs (omega arith)) h)

-- a leaf or a rule
pub one_spelled : (n : ℕ) (cs : List ℕ) → 0 < n → 2 ≤ length cs → slice_index_or cs 0 0 < 2 → spells (n - 1) (take (length cs - 2) (drop 2 cs)) ≡ true → spells n cs ≡ true
one_spelled zero cs p l h e = absurd (omega arith)
one_spelled (suc n) [] p l h e = absurd (omega arith)
one_spelled (suc n) (x ∷ []) p l h e = absurd (omega arith)
one_spelled (suc n) (zero ∷ (c ∷ cs)) p l h e = whole n (suc n - 1) (length (zero ∷ (c ∷ cs)) - 2) cs (omega arith) (omega arith) e
one_spelled (suc n) (suc zero ∷ (c ∷ cs)) p l h e = whole n (suc n - 1) (length (zero ∷ (c ∷ cs)) - 2) cs (omega arith) (omega arith) e
one_spelled (suc n) (suc (suc x) ∷ (c ∷ cs)) p l h e = absurd (omega arith)

-- a row or a choice
pub parts_spelled : (n : ℕ) (cs : List ℕ) → 0 < n → 2 ≤ length cs → 2 ≤ slice_index_or cs 0 0 → slice_index_or cs 0 0 < 4 → spells (slice_index_or cs 1 0 + (n - 1)) (take (length cs - 2) (drop 2 cs)) ≡ true → spells n cs ≡ true
parts_spelled zero cs p l g h e = absurd (omega arith)
parts_spelled (suc n) [] p l g h e = absurd (omega arith)
parts_spelled (suc n) (x ∷ []) p l g h e = absurd (omega arith)
parts_spelled (suc n) (zero ∷ (k ∷ cs)) p l g h e = absurd (omega arith)
parts_spelled (suc n) (suc zero ∷ (k ∷ cs)) p l g h e = absurd (omega arith)
parts_spelled (suc n) (suc (suc zero) ∷ (k ∷ cs)) p l g h e = whole (k + n) (k + (suc n - 1)) (length (zero ∷ (k ∷ cs)) - 2) cs (omega arith) (omega arith) e
parts_spelled (suc n) (suc (suc (suc zero)) ∷ (k ∷ cs)) p l g h e = whole (k + n) (k + (suc n - 1)) (length (zero ∷ (k ∷ cs)) - 2) cs (omega arith) (omega arith) e
parts_spelled (suc n) (suc (suc (suc (suc x))) ∷ (k ∷ cs)) p l g h e = absurd (omega arith)
