-- Loops that go outward: from the last of a list to the first, also past items that don't matter.
use Rattle.std.proofs.Common.{◌≡◌, ℕ, List, [], ◌∷◌, ◌++◌, Option, None, Some, Bool, true, false, zero, suc, drop}
use Rattle.std.proofs.Common.{take}
use Rattle.std.proofs.Common.{length, get_or, ◌<◌, ◌≤◌, refl, sym, ap, subst, ◌∙◌, append_assoc, map, filter, arith}
use Rattle.std.proofs.Common.{if◌then◌else◌}
use Rattle.std.proofs.Math.Seq.{drop-cons}
use Rattle.std.specs.Prelude.{reverse}
use Rattle.std.proofs.lemmas.List.{reverse-append, take-append-drop}
use Rattle.dialogue.specs.Dialogue.{done, first_found}
use Rattle.dialogue.specs.Told.{Told}
use Rattle.dialogue.specs.ToldLaws.{told_done, told_same, found_more, found_end}
use Rattle.jtypes.specs.World.{World, Rule}
use Rattle.jtypes.specs.declared.ask.Ask.{Ask}

module _ {X : Type 0} (xs : List X) (j : ℕ) (x : X) (lt : j < length xs) (is : x ≡ get_or xs j x) where
  rev_step : reverse (drop j xs) ≡ reverse (drop (suc j) xs) ++ x ∷ []
  rev_step =
      ap reverse (drop-cons xs j x lt ∙ ap (λ y. y ∷ drop (suc j) xs) (sym is))
      ∙ reverse-append (x ∷ []) (drop (suc j) xs)

  rev_all : reverse xs ≡ reverse (drop (suc j) xs) ++ x ∷ reverse (take j xs)
  rev_all =
      ap reverse (sym (take-append-drop j xs))
      ∙ reverse-append (take j xs) (drop j xs)
      ∙ ap (λ ys. ys ++ reverse (take j xs)) rev_step
      ∙ append_assoc (reverse (drop (suc j) xs)) (x ∷ []) (reverse (take j xs))

  module _ {A : Type 0} (f : X → Rule (Option A)) (w : World) (i : ℕ) (e : i ≡ suc j) (s m t : List Ask)
      (h : Told (first_found (map f (reverse (drop i xs)))) w s m None) where
    so_far : Told (first_found (map f (reverse (drop (suc j) xs)))) w s m None
    so_far = subst (λ n. Told (first_found (map f (reverse (drop n xs)))) w s m None) e h

    pub outward_more : (o : Option A) → Told (f x) w m t o
        → Told (first_found (map f (reverse (drop j xs)))) w s t o
    outward_more o k =
        subst (λ ys. Told (first_found (map f ys)) w s t o) (sym rev_step)
        (found_more w f (reverse (drop (suc j) xs)) x s m t so_far o k)

    pub outward_end : (a : A) → Told (f x) w m t (Some a) → Told (first_found (map f (reverse xs))) w s t (Some a)
    outward_end a k =
        subst (λ ys. Told (first_found (map f ys)) w s t (Some a)) (sym rev_all)
        (found_end w f (reverse (drop (suc j) xs)) x s m t so_far (reverse (take j xs)) a k)

pub drop_split : {X : Type 0} (k e : ℕ) (xs : List X) → k ≤ e → drop k xs ≡ drop k (take e xs) ++ drop e xs
drop_split zero e xs le = sym (take-append-drop e xs)
drop_split (suc k) zero xs le = absurd (omega (arith, le))
drop_split (suc k) (suc e) [] le = refl
drop_split (suc k) (suc e) (x ∷ xs) le = drop_split k e xs (omega (arith, le))

-- items that don't matter may be passed
module _ {X A : Type 0} (f : X → Rule (Option A)) (matters : X → Bool)
    (silent : (x : X) → matters x ≡ false → f x ≡ done None) (w : World) (s m : List Ask) where
  abbrev pub NoneIn : List X → Type 0
  NoneIn xs = Told (first_found (map f (reverse xs))) w s m None

  pass_one : (x : X) (xs ys : List X) (b : Bool) → matters x ≡ b
      → (if b then x ∷ filter matters xs else filter matters xs) ≡ []
      → (filter matters xs ≡ [] → NoneIn (xs ++ ys)) → NoneIn (x ∷ xs ++ ys)
  pass_one x xs ys true is e h = cc
  pass_one x xs ys false is e h =
      subst (λ zs. Told (first_found (map f zs)) w s m None) (sym (reverse-append (x ∷ []) (xs ++ ys)))
      (found_more w f (reverse (xs ++ ys)) x s m m (h e) None
      (told_same (done None) (f x) w m m None (sym (silent x is)) (told_done w m None)))

  pub pass : (xs ys : List X) → filter matters xs ≡ [] → NoneIn ys → NoneIn (xs ++ ys)
  pass [] ys e h = h
  pass (x ∷ xs) ys e h = pass_one x xs ys (matters x) refl e (λ k. pass xs ys k h)
