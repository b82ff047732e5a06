-- A rule, and behind it values that are found without a question.
use Rattle.std.proofs.Common.{◌≡◌, List, [], ◌∷◌, Option, None, Some}
use Rattle.dialogue.specs.Dialogue.{done, first_found}
use Rattle.dialogue.specs.Told.{Told}
use Rattle.dialogue.specs.ToldLaws.{told_value, found_here, found_past, found_last}
use Rattle.jtypes.specs.World.{World, Rule}
use Rattle.jtypes.specs.declared.ask.Ask.{Ask}

module _ {A : Type 0} (w : World) (r : Rule (Option A)) (x : Option A) (s m : List Ask) where
  pub value_before : (a : A) → Told r w s m (Some a) → Told (first_found (r ∷ done x ∷ [])) w s m (Some a)
  value_before a h = found_here w r (done x ∷ []) s m a h

  pub value_behind : (o : Option A) → Told r w s m None → o ≡ x → Told (first_found (r ∷ done x ∷ [])) w s m o
  value_behind o h e = found_past w r (done x ∷ []) s m m o h (found_last w (done x) m m o (told_value w m o x e))

  module _ (y : Option A) where
    pub values_before : (a : A) → Told r w s m (Some a) → Told (first_found (r ∷ done x ∷ done y ∷ [])) w s m (Some a)
    values_before a h = found_here w r (done x ∷ done y ∷ []) s m a h

    pub first_value : (a : A) → Told r w s m None → Some a ≡ x
        → Told (first_found (r ∷ done x ∷ done y ∷ [])) w s m (Some a)
    first_value a h e =
        found_past w r (done x ∷ done y ∷ []) s m m (Some a) h
        (found_here w (done x) (done y ∷ []) m m a (told_value w m (Some a) x e))

    pub second_value : (o : Option A) → Told r w s m None → None ≡ x → o ≡ y
        → Told (first_found (r ∷ done x ∷ done y ∷ [])) w s m o
    second_value o h e k =
        found_past w r (done x ∷ done y ∷ []) s m m o h
        (found_past w (done x) (done y ∷ []) m m m o (told_value w m None x e)
        (found_last w (done y) m m o (told_value w m o y k)))

-- a value that is found without a question, and behind it a rule
module _ {A : Type 0} (w : World) (x : Option A) (r : Rule (Option A)) (s m : List Ask) where
  pub rule_before : (a : A) → Some a ≡ x → Told (first_found (done x ∷ r ∷ [])) w s s (Some a)
  rule_before a e = found_here w (done x) (r ∷ []) s s a (told_value w s (Some a) x e)

  pub rule_behind : (o : Option A) → None ≡ x → Told r w s m o → Told (first_found (done x ∷ r ∷ [])) w s m o
  rule_behind o e h =
      found_past w (done x) (r ∷ []) s s m o (told_value w s None x e) (found_last w r s m o h)

-- three rules
module _ {A : Type 0} (w : World) (p q r : Rule (Option A)) (s k m : List Ask) where
  pub first_of_three : (a : A) → Told p w s k (Some a) → Told (first_found (p ∷ q ∷ r ∷ [])) w s k (Some a)
  first_of_three a h = found_here w p (q ∷ r ∷ []) s k a h

  pub second_of_three : (a : A) → Told p w s k None → Told q w k m (Some a)
      → Told (first_found (p ∷ q ∷ r ∷ [])) w s m (Some a)
  second_of_three a h g = found_past w p (q ∷ r ∷ []) s k m (Some a) h (found_here w q (r ∷ []) k m a g)

  pub third_of_three : (t : List Ask) (o : Option A) → Told p w s k None → Told q w k m None → Told r w m t o
      → Told (first_found (p ∷ q ∷ r ∷ [])) w s t o
  third_of_three t o h g f =
      found_past w p (q ∷ r ∷ []) s k t o h (found_past w q (r ∷ []) k m t o g (found_last w r m t o f))
