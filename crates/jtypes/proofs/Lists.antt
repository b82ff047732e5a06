-- Lists that are equal item by item.
use Rattle.std.proofs.Common.{◌≡◌, ◌∙◌, sym, ap, subst, refl, ℕ, ◌<◌, ◌+◌, List, [], ◌∷◌, length, drop, get_or, suc, Some}
use Rattle.std.proofs.Common.{slice_get, add-one, Bool, true, false, ◌&&◌}
use Rattle.std.proofs.Math.Seq.{drop-cons}
use Rattle.std.proofs.lemmas.Option.{slice_get_read}
use lib.Pointwise.{pointwise}
use Rattle.jtypes.proofs.Equality.{Decides, names_decide, true_false}
use Rattle.jtypes.specs.World.{name_eq}

module _ {A : Type 0} (xs ys : List A) (i : ℕ) (x y : A) (l : i < length xs) (m : i < length ys)
    (e : x ≡ get_or xs i x) (f : y ≡ get_or ys i y) where
  -- two lists are equal from a place where they are behind it
  pub same_from : x ≡ y → drop (i + 1) xs ≡ drop (i + 1) ys → drop i xs ≡ drop i ys
  same_from s rest =
      let tail : drop (suc i) xs ≡ drop (suc i) ys = rw add-one at rest in
      drop-cons xs i x l
      ∙ ap (λ z. z ∷ drop (suc i) xs) (sym e ∙ s ∙ f)
      ∙ ap (λ zs. get_or ys i y ∷ zs) tail
      ∙ sym (drop-cons ys i y m)

  -- and equal lists have equal items
  pub same_at : xs ≡ ys → x ≡ y
  same_at s = some_same x y (sym (slice_get_read xs (length xs) i x refl l e) ∙ ap (λ zs. slice_get zs i) s ∙ slice_get_read ys (length ys) i y refl m f)
    where
      some_same : (a b : A) → Some a ≡ Some b → a ≡ b
      some_same a b h = cc

pub both_of : (a b : Bool) → (a && b) ≡ true → (a ≡ true) × (b ≡ true)
both_of true b h = (refl, h)
both_of false b h = true_false (sym h)

pub of_both : (a b : Bool) → a ≡ true → b ≡ true → (a && b) ≡ true
of_both a b e f = ap (λ x. x && b) e ∙ f

-- a test of items decides lists, pair by pair
module _ {A : Type 0} (eq : A → A → Bool) (d : Decides eq) where
  lists_true : (xs ys : List A) → pointwise eq xs ys ≡ true → xs ≡ ys
  lists_true [] [] h = refl
  lists_true [] (y ∷ ys) h = true_false (sym h)
  lists_true (x ∷ xs) [] h = true_false (sym h)
  lists_true (x ∷ xs) (y ∷ ys) h =
      let k = both_of (eq x y) (pointwise eq xs ys) h in
      let first : x ≡ y = (d x y).0 k.0 in
      let rest : xs ≡ ys = lists_true xs ys k.1 in
      λ i. first i ∷ rest i

  lists_same : (xs : List A) → pointwise eq xs xs ≡ true
  lists_same [] = refl
  lists_same (x ∷ xs) = of_both (eq x x) (pointwise eq xs xs) ((d x x).1 refl) (lists_same xs)

  pub lists_decide : Decides (pointwise eq)
  lists_decide xs ys = (lists_true xs ys, λ e. subst (λ zs. pointwise eq xs zs ≡ true) e (lists_same xs))

pub name_lists_decide : Decides (pointwise name_eq)
name_lists_decide = lists_decide name_eq names_decide
