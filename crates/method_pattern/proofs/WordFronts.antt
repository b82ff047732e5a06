-- How far a text is a word.
use Rattle.std.proofs.Common.{◌≡◌, ℕ, ◌+◌, ◌<◌, ◌≤◌, inl, inr, List, [], ◌∷◌, length, get_or, drop, refl, sym, ap, subst}
use Rattle.std.proofs.Common.{◌∙◌, arith}
use Rattle.std.specs.Prelude.{None, Some, ◌==◌}
use Rattle.std.proofs.lemmas.Bool.{cases_eq, eq-eqb, ne_eqb, cond-true, cond-false}
use Rattle.std.proofs.lemmas.List.{drop_all, drop_more}
use Rattle.method_pattern.specs.Texts.{IsWrongAt}
use Rattle.method_pattern.specs.Reading.{common, IsExactly}
use Rattle.method_pattern.proofs.Places.{first, lifted, stuck}

alike : (a b : ℕ) (w s : List ℕ) → a ≡ b → common (a ∷ w) (b ∷ s) ≡ common w s + 1
alike a b w s e = cond-true (a == b) (common w s + 1) 0 (eq-eqb a b e)

unlike : (a b : ℕ) (w s : List ℕ) → (a ≡ b → ⊥) → common (a ∷ w) (b ∷ s) ≡ 0
unlike a b w s e = cond-false (a == b) (common w s + 1) 0 (ne_eqb a b e)

pub common_past : (w s : List ℕ) (i : ℕ) → length w ≤ i → common (drop i w) (drop i s) ≡ 0
common_past w s i le = ap (λ x. common x (drop i s)) (drop_all i w le)

pub common_end : (w s : List ℕ) (i : ℕ) → length s ≤ i → common (drop i w) (drop i s) ≡ 0
common_end w s i le = ap (common (drop i w)) (drop_all i s le) ∙ nothing (drop i w)
  where
    nothing : (w : List ℕ) → common w [] ≡ 0
    nothing [] = refl
    nothing (a ∷ w) = refl

both : (w s : List ℕ) (i : ℕ) → i < length w → i < length s
    → common (drop i w) (drop i s) ≡ common (get_or w i 0 ∷ drop (i + 1) w) (get_or s i 0 ∷ drop (i + 1) s)
both w s i a b =
    ap (λ x. common x (drop i s)) (drop_more w i 0 a) ∙ ap (common (get_or w i 0 ∷ drop (i + 1) w)) (drop_more s i 0 b)

pub common_unlike : (w s : List ℕ) (i : ℕ) → i < length w → i < length s → (get_or s i 0 ≡ get_or w i 0 → ⊥)
    → common (drop i w) (drop i s) ≡ 0
common_unlike w s i a b other =
    both w s i a b
    ∙ unlike (get_or w i 0) (get_or s i 0) (drop (i + 1) w) (drop (i + 1) s) (λ e. other (sym e))

pub common_alike : (w s : List ℕ) (i : ℕ) → i < length w → i < length s → get_or s i 0 ≡ get_or w i 0
    → common (drop i w) (drop i s) ≡ common (drop (i + 1) w) (drop (i + 1) s) + 1
common_alike w s i a b same =
    both w s i a b ∙ alike (get_or w i 0) (get_or s i 0) (drop (i + 1) w) (drop (i + 1) s) (sym same)

-- a text that isn't the word is wrong where the two go apart
pub not_word : (w s : List ℕ) → (s ≡ w → ⊥) → IsWrongAt (IsExactly w) s (common w s)
not_word [] [] other = absurd (other refl)
not_word [] (b ∷ s) other =
    stuck (IsExactly []) [] (b ∷ s) 0 refl tt [] refl (λ y rest e is. let f : None ≡ Some b = sym (ap first is) ∙ e in cc)
not_word (a ∷ w) [] other =
    stuck (IsExactly (a ∷ w)) [] [] 0 refl tt (a ∷ w) refl
    (λ y rest e is. let f : None ≡ Some a = sym e ∙ ap first is in cc)
not_word (a ∷ w) (b ∷ s) other = elim (cases_eq a b) [
  | inl same ↦
      let heads : b ∷ [] ≡ a ∷ [] = ap (λ x. x ∷ []) (sym same) in
      subst (IsWrongAt (IsExactly (a ∷ w)) (b ∷ s)) (omega (arith, alike a b w s same))
      (lifted (IsExactly w) (IsExactly (a ∷ w)) (b ∷ []) s
      (λ x rest is. (tt, (let tails : rest ≡ w = is in cc)))
      (λ y rest e is. (tt, (let whole : b ∷ rest ≡ a ∷ w = is in cc)))
      1 (common w s) refl (not_word w s (λ is. other (cc))))
  | inr apart ↦
      subst (IsWrongAt (IsExactly (a ∷ w)) (b ∷ s)) (sym (unlike a b w s apart))
      (stuck (IsExactly (a ∷ w)) [] (b ∷ s) 0 refl tt (a ∷ w) refl
      (λ y rest e is. apart (let f : Some a ≡ Some b = sym (ap first is) ∙ e in cc)))
]
