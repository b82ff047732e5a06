-- Lists that are equal item by item.
use Rattle.std.proofs.Common.{◌≡◌, ◌∙◌, sym, ap, refl, ℕ, ◌<◌, ◌+◌, List, ◌∷◌, length, drop, get_or, Some, slice_get}
use Rattle.std.proofs.lemmas.List.{drop_more}
use Rattle.std.proofs.lemmas.Option.{slice_get_read}

module _ {A : Type 0} (xs ys : List A) (i : ℕ) (x y : A) (l : i < length xs) (m : i < length ys)
    (e : x ≡ get_or xs i x) (f : y ≡ get_or ys i y) where
  -- two lists are equal from a place on where their items there are, and they are equal behind it
  pub same_from : x ≡ y → drop (i + 1) xs ≡ drop (i + 1) ys → drop i xs ≡ drop i ys
  same_from s rest =
      drop_more xs i x l
      ∙ ap (λ z. z ∷ drop (i + 1) xs) (sym e ∙ s ∙ f)
      ∙ ap (λ zs. get_or ys i y ∷ zs) rest
      ∙ sym (drop_more ys i y m)

  -- and equal lists have equal items
  pub same_at : xs ≡ ys → x ≡ y
  same_at s =
      some_same x y
      (sym (slice_get_read xs (length xs) i x refl l e) ∙ ap (λ zs. slice_get zs i) s
      ∙ slice_get_read ys (length ys) i y refl m f)
    where
      some_same : (a b : A) → Some a ≡ Some b → a ≡ b
      some_same a b h = cc
