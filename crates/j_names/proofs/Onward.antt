-- Loops over a list that end at the first item that has something.
use Rattle.std.proofs.Common.{◌≡◌, ◌∙◌, sym, ap, subst, ℕ, List, [], ◌∷◌, ◌++◌, ◌+◌, ◌<◌, Option, None, Some, take}
use Rattle.std.proofs.Common.{drop}
use Rattle.std.proofs.Common.{suc, length, get_or, map, add-one}
use Rattle.std.proofs.Math.Seq.{take-suc, drop-cons}
use Rattle.std.proofs.lemmas.List.{take-append-drop}
use Rattle.dialogue.specs.Dialogue.{first_found}
use Rattle.dialogue.specs.Told.{Told}
use Rattle.dialogue.specs.ToldLaws.{found_more, found_end}
use Rattle.jtypes.specs.World.{World, Rule}
use Rattle.jtypes.specs.declared.ask.Ask.{Ask}

module _ {X : Type 0} (xs : List X) (i : ℕ) (x : X) (lt : i < length xs) (is : x ≡ get_or xs i x) where
  pub one_more : take (i + 1) xs ≡ take i xs ++ x ∷ []
  one_more = rw add-one (take-suc xs i x lt ∙ ap (λ y. take i xs ++ y ∷ []) (sym is))

  all : xs ≡ take i xs ++ x ∷ drop (suc i) xs
  all =
      sym (take-append-drop i xs)
      ∙ ap (λ ys. take i xs ++ ys) (drop-cons xs i x lt ∙ ap (λ y. y ∷ drop (suc i) xs) (sym is))

  module _ {A : Type 0} (f : X → Rule (Option A)) (w : World) (s m t : List Ask)
      (h : Told (first_found (map f (take i xs))) w s m None) where
    pub onward_more : (o : Option A) → Told (f x) w m t o → Told (first_found (map f (take (i + 1) xs))) w s t o
    onward_more o k =
        subst (λ ys. Told (first_found (map f ys)) w s t o) (sym one_more) (found_more w f (take i xs) x s m t h o k)

    pub onward_end : (a : A) → Told (f x) w m t (Some a) → Told (first_found (map f xs)) w s t (Some a)
    onward_end a k =
        subst (λ ys. Told (first_found (map f ys)) w s t (Some a)) (sym all)
        (found_end w f (take i xs) x s m t h (drop (suc i) xs) a k)
