-- Loops over a list whose steps follow rules: one item more.
use Rattle.std.proofs.Common.{◌≡◌, ◌∙◌, sym, ap, subst, ℕ, List, [], ◌∷◌, ◌++◌, ◌+◌, ◌<◌, take, length, get_or}
use Rattle.std.proofs.lemmas.List.{take_more}
use Rattle.dialogue.specs.Dialogue.{each, in_turn}
use Rattle.dialogue.specs.Told.{Told}
use Rattle.dialogue.specs.ToldLaws.{in_turn_told, each_told}
use Rattle.jtypes.specs.World.{World, Rule}
use Rattle.jtypes.specs.declared.ask.Ask.{Ask}

pub one_more : {A : Type 0} (xs : List A) (i : ℕ) (x : A) → i < length xs → x ≡ get_or xs i x
    → take (i + 1) xs ≡ take i xs ++ x ∷ []
one_more xs i x lt is = take_more xs i x lt ∙ ap (λ y. take i xs ++ y ∷ []) (sym is)

module _ {A : Type 0} (w : World) (xs : List A) (i : ℕ) (x : A) (lt : i < length xs) (is : x ≡ get_or xs i x)
    (old mid new : List Ask) where
  pub turn_more : {S : Type 0} (step : S → A → Rule S) (s t u : S)
      → Told (in_turn step s (take i xs)) w old mid t → Told (step t x) w mid new u
      → Told (in_turn step s (take (i + 1) xs)) w old new u
  turn_more step s t u h k =
      subst (λ ys. Told (in_turn step s ys) w old new u) (sym (one_more xs i x lt is))
      (in_turn_told w (take i xs) x old mid new step s t u h k)

  pub each_more : {B : Type 0} (f : A → Rule B) (bs : List B) (b : B)
      → Told (each f (take i xs)) w old mid bs → Told (f x) w mid new b
      → Told (each f (take (i + 1) xs)) w old new (bs ++ b ∷ [])
  each_more f bs b h k =
      subst (λ ys. Told (each f ys) w old new (bs ++ b ∷ [])) (sym (one_more xs i x lt is))
      (each_told w (take i xs) x old mid new f bs b h k)
