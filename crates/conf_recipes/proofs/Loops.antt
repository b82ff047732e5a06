-- A loop that appends what it makes of one element after another.
use Rattle.std.proofs.Common.{◌≡◌, ℕ, suc, ◌+◌, ◌<◌, ◌≤◌, List, [], ◌∷◌, ◌++◌, length, drop, get_or, refl, sym, ap, ◌∙◌, append_assoc, append-nil, add-one, drop-cons}
use Rattle.std.proofs.lemmas.List.{drop_all}

-- F is what is made of all elements, and P what is made of one.
module _ {A B : Type 0} (F : List A → List B) (P : A → List B) (xs : List A) (all : List B) where
  pub loop_end : F [] ≡ [] → (out : List B) (k : ℕ) → length xs ≤ k → out ++ F (drop k xs) ≡ all → out ≡ all
  loop_end nothing out k le so_far =
      sym (append-nil out)
      ∙ (ap (λ z. out ++ z) (sym nothing) ∙ (ap (λ ys. out ++ F ys) (sym (drop_all k xs le)) ∙ so_far))

  pub loop_step : ((x : A) (ys : List A) → F (x ∷ ys) ≡ P x ++ F ys) → (out new : List B) (k : ℕ) (d : A)
      → k < length xs → new ≡ out ++ P (get_or xs k d) → out ++ F (drop k xs) ≡ all
      → new ++ F (drop (k + 1) xs) ≡ all
  loop_step over out new k d lt is so_far =
      let x = get_or xs k d in
      ap (λ z. z ++ F (drop (k + 1) xs)) is
      ∙ (append_assoc out (P x) (F (drop (k + 1) xs))
      ∙ (ap (λ z. out ++ z) (sym (over x (drop (k + 1) xs)))
      ∙ (ap (λ ys. out ++ F ys) (sym (drop-cons xs k d lt ∙ rw add-one refl)) ∙ so_far)))
