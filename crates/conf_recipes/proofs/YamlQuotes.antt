-- A text in quotes, one character after another.
use Rattle.std.proofs.Common.{◌≡◌, ℕ, ◌+◌, ◌<◌, ◌≤◌, true, false, List, [], ◌∷◌, ◌++◌, length, get_or, drop, refl, sym, ◌∙◌, ap, append_assoc, append-nil}
use Rattle.std.specs.Prelude.{Bool, ◌==◌}
use Rattle.std.proofs.lemmas.Bool.{eq-eqb, ne_eqb}
use Rattle.std.proofs.lemmas.List.{at_drop_more, at_drop_all, drop_more}
use Rattle.yaml_texts.specs.Spelled.{doubled}

twice : (b : ℕ) (rest : List ℕ) → (b == 39) ≡ true → doubled (b ∷ rest) ≡ b ∷ b ∷ doubled rest
unfolding doubled
twice b rest e = rw e refl

pub once : (b : ℕ) (rest : List ℕ) → (b == 39) ≡ false → doubled (b ∷ rest) ≡ b ∷ doubled rest
unfolding doubled
once b rest e = rw e refl

pub doubled_quote : (out s : List ℕ) (i : ℕ) → i < length s → get_or s i 0 ≡ 39
    → out ++ doubled (drop i s) ≡ ((out ++ 39 ∷ []) ++ get_or s i 0 ∷ []) ++ doubled (drop (i + 1) s)
doubled_quote out s i low e =
    let rest = doubled (drop (i + 1) s) in
    ap (λ t. out ++ t) (at_drop_more doubled s i 0 low ∙ (twice (get_or s i 0) (drop (i + 1) s) (eq-eqb (get_or s i 0) 39 e) ∙ ap (λ n. n ∷ get_or s i 0 ∷ rest) e))
    ∙ (sym (append_assoc out (39 ∷ []) (get_or s i 0 ∷ rest))
    ∙ sym (append_assoc (out ++ 39 ∷ []) (get_or s i 0 ∷ []) rest))

pub doubled_other : (out s : List ℕ) (i : ℕ) → i < length s → (get_or s i 0 ≡ 39 → ⊥)
    → out ++ doubled (drop i s) ≡ (out ++ get_or s i 0 ∷ []) ++ doubled (drop (i + 1) s)
doubled_other out s i low e =
    ap (λ t. out ++ t) (at_drop_more doubled s i 0 low ∙ once (get_or s i 0) (drop (i + 1) s) (ne_eqb (get_or s i 0) 39 e))
    ∙ sym (append_assoc out (get_or s i 0 ∷ []) (doubled (drop (i + 1) s)))

pub doubled_end : (out s : List ℕ) (i : ℕ) → length s ≤ i → out ++ doubled (drop i s) ≡ out
unfolding doubled
doubled_end out s i past = ap (λ t. out ++ t) (at_drop_all doubled s i past) ∙ append-nil out
