use Rattle.std.proofs.Common.{◌≡◌, ℕ, List, [], ◌∷◌, ◌++◌, refl, sym, ◌∙◌, ap, subst, inl, inr, zero, suc, append-nil, map}
use Rattle.std.specs.List.{flat_map}
use Rattle.std.proofs.lemmas.List.{map-append}
use Rattle.dialogue.specs.Dialogue.{done, each, run, asked, In}
use Rattle.dialogue.specs.DialogueLaws.{In-append, In-left, In-right, run-bind, asked-bind, run-each, asked-each}
use Rattle.jtypes.specs.World.{World}
use Rattle.jtypes.specs.declared.ask.Ask.{Ask}
use Rattle.jtypes.specs.declared.ask.Ask.TheVariants.{Class}
use Rattle.jtypes.specs.Subtype.{Reaches, supertypes, classes_reached}

all_in : List (List (List ℕ)) → List (List ℕ)
all_in all = flat_map (λ cs. cs) all

pub run_more : (w : World) (n : ℕ) (a : List ℕ) → run (classes_reached (suc n) a) w ≡ a ∷ flat_map (λ cs. cs) (map (λ s. run (classes_reached n s) w) (supertypes w a))
unfolding classes_reached
run_more w n a =
    run-bind (each (λ s. classes_reached n s) (supertypes w a)) (λ all. done (a ∷ flat_map (λ cs. cs) all)) w
    ∙ ap (λ all. a ∷ flat_map (λ cs. cs) all) (run-each (λ s. classes_reached n s) (supertypes w a) w)

pub asked_more : (w : World) (n : ℕ) (a : List ℕ) → asked (classes_reached (suc n) a) w ≡ Class a ∷ flat_map (λ s. asked (classes_reached n s) w) (supertypes w a)
unfolding classes_reached
asked_more w n a =
    ap (λ qs. Class a ∷ qs) (asked-bind (each (λ s. classes_reached n s) (supertypes w a)) (λ all. done (a ∷ flat_map (λ cs. cs) all)) w ∙ append-nil _ ∙ asked-each (λ s. classes_reached n s) (supertypes w a) w)

each_asked : (f : List ℕ → List Ask) (g : List ℕ → List (List ℕ)) → ((s : List ℕ) → f s ≡ map Class (g s)) → (ss : List (List ℕ)) → flat_map f ss ≡ map Class (flat_map (λ cs. cs) (map g ss))
each_asked f g h [] = refl
each_asked f g h (s ∷ ss) =
    ap (λ l. l ++ flat_map f ss) (h s)
    ∙ ap (λ l. map Class (g s) ++ l) (each_asked f g h ss)
    ∙ sym (map-append Class (g s) (flat_map (λ cs. cs) (map g ss)))

-- the classes that are asked for are those reached
pub asked_reached : (w : World) (n : ℕ) (a : List ℕ) → asked (classes_reached n a) w ≡ map Class (run (classes_reached n a) w)
unfolding classes_reached
asked_reached w zero a = refl
asked_reached w (suc n) a =
    asked_more w n a
    ∙ ap (λ qs. Class a ∷ qs) (each_asked (λ s. asked (classes_reached n s) w) (λ s. run (classes_reached n s) w) (λ s. asked_reached w n s) (supertypes w a))
    ∙ sym (ap (map Class) (run_more w n a))

pub some_of : (f : List ℕ → List (List ℕ)) (ss : List (List ℕ)) (b : List ℕ) → In b (flat_map (λ cs. cs) (map f ss)) → (s : List ℕ) × In s ss × In b (f s)
some_of f [] b h = elim h [ ]
some_of f (s ∷ ss) b h = elim (In-append b (f s) (flat_map (λ cs. cs) (map f ss)) h) [ inl i ↦ (s, inl refl, i) | inr j ↦ let p = some_of f ss b j in (p.0, inr p.1, p.2) ]

pub of_some : (f : List ℕ → List (List ℕ)) (ss : List (List ℕ)) (s b : List ℕ) → In s ss → In b (f s) → In b (flat_map (λ cs. cs) (map f ss))
of_some f [] s b h i = elim h [ ]
of_some f (t ∷ ss) s b (inl e) i = In-left b (f t) _ (subst (λ x. In b (f x)) e i)
of_some f (t ∷ ss) s b (inr h) i = In-right b (f t) _ (of_some f ss s b h i)

-- the classes reached are those of the relation
pub reached_reaches : (w : World) (n : ℕ) (a b : List ℕ) → In b (run (classes_reached n a) w) → Reaches w n a b
unfolding classes_reached
reached_reaches w zero a b (inl e) = sym e
reached_reaches w zero a b (inr f) = absurd f
reached_reaches w (suc n) a b h = elim (subst (In b) (run_more w n a) h) [
  | inl e ↦ inl (sym e)
  | inr i ↦ let p = some_of (λ s. run (classes_reached n s) w) (supertypes w a) b i in inr (p.0, p.1, reached_reaches w n p.0 b p.2)
]

pub reaches_reached : (w : World) (n : ℕ) (a b : List ℕ) → Reaches w n a b → In b (run (classes_reached n a) w)
unfolding classes_reached
reaches_reached w zero a b e = inl (sym e)
reaches_reached w (suc n) a b (inl e) = subst (In b) (sym (run_more w n a)) (inl (sym e))
reaches_reached w (suc n) a b (inr p) = subst (In b) (sym (run_more w n a)) (inr (of_some (λ s. run (classes_reached n s) w) (supertypes w a) p.0 b p.1 (reaches_reached w n p.0 b p.2)))
