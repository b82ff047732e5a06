-- What the tests of a list give and ask, one after another.
use Rattle.std.proofs.Common.{◌≡◌, ◌∙◌, sym, ap, subst, refl, List, [], ◌∷◌, ◌++◌, Bool, true, false, ◌&&◌, if◌then◌else◌, append-nil, filter}
use Rattle.std.specs.List.{list_all, flat_map}
use Rattle.std.proofs.lemmas.Grind.{flat_map-append}
use Rattle.std.proofs.lemmas.List.Folds.{list_all-append, list_all-map}
use Rattle.dialogue.specs.Dialogue.{done, bind, each, run, asked}
use Rattle.dialogue.specs.DialogueLaws.{run-bind, asked-bind, run-each, asked-each}
use Rattle.dialogue.specs.Told.{Told, Heard}
use Rattle.dialogue.specs.ToldLaws.{heard_more}
use Rattle.jtypes.specs.World.{World, Rule}
use Rattle.jtypes.specs.declared.ask.Ask.{Ask}
use Rattle.j_overload.specs.TestEach.{all_of, those}

pub run-all : {A : Type 0} (test : A → Rule Bool) (xs : List A) (w : World) → run (all_of test xs) w ≡ list_all (λ x. run (test x) w) xs
run-all test xs w =
    run-bind (each test xs) (λ passed. done (list_all (λ b. b) passed)) w
    ∙ ap (list_all (λ b. b)) (run-each test xs w)
    ∙ list_all-map (λ b. b) (λ x. run (test x) w) xs

pub asked-all : {A : Type 0} (test : A → Rule Bool) (xs : List A) (w : World) → asked (all_of test xs) w ≡ flat_map (λ x. asked (test x) w) xs
asked-all test xs w =
    asked-bind (each test xs) (λ passed. done (list_all (λ b. b) passed)) w
    ∙ append-nil _
    ∙ asked-each test xs w

kept : {A : Type 0} → Bool → A → List A → List A
kept b x ys = if b then x ∷ ys else ys

pub run-those : {A : Type 0} (test : A → Rule Bool) (xs : List A) (w : World) → run (those test xs) w ≡ filter (λ x. run (test x) w) xs
run-those test [] w = refl
run-those test (x ∷ xs) w =
    run-bind (test x) (λ b. bind (those test xs) (λ ys. done (if b then x ∷ ys else ys))) w
    ∙ run-bind (those test xs) (λ ys. done (if run (test x) w then x ∷ ys else ys)) w
    ∙ ap (λ ys. if run (test x) w then x ∷ ys else ys) (run-those test xs w)

pub asked-those : {A : Type 0} (test : A → Rule Bool) (xs : List A) (w : World) → asked (those test xs) w ≡ flat_map (λ x. asked (test x) w) xs
asked-those test [] w = refl
asked-those test (x ∷ xs) w =
    asked-bind (test x) (λ b. bind (those test xs) (λ ys. done (if b then x ∷ ys else ys))) w
    ∙ ap (λ qs. asked (test x) w ++ qs) (
    asked-bind (those test xs) (λ ys. done (if run (test x) w then x ∷ ys else ys)) w
    ∙ append-nil _
    ∙ asked-those test xs w)

and_true : (b : Bool) → (b && true) ≡ b
and_true true = refl
and_true false = refl

one_heard : {A : Type 0} (test : A → Rule Bool) (xs : List A) (x : A) (w : World) (s s' s'' : List Ask) → Heard s (flat_map (λ y. asked (test y) w) xs) s' → Heard s' (asked (test x) w) s'' → Heard s (flat_map (λ y. asked (test y) w) (xs ++ x ∷ [])) s''
one_heard {A} test xs x w s s' s'' h k =
    let f : A → List Ask = λ y. asked (test y) w in
    subst (λ qs. Heard s qs s'') (sym (flat_map-append f xs (x ∷ []) ∙ ap (λ qs. flat_map f xs ++ qs) (append-nil (f x)))) (heard_more s s' s'' (flat_map f xs) (f x) h k)

-- one more test
pub told_all_more : {A : Type 0} (test : A → Rule Bool) (xs : List A) (x : A) (w : World) (s s' s'' : List Ask) (r b : Bool) → Told (all_of test xs) w s s' r → Told (test x) w s' s'' b → Told (all_of test (xs ++ x ∷ [])) w s s'' (r && b)
told_all_more {A} test xs x w s s' s'' r b h k = record {
  gives =
      let p : A → Bool = λ y. run (test y) w in
      ap (λ y. y && b) (h.gives ∙ run-all test xs w)
      ∙ ap (λ y. list_all p xs && y) (k.gives ∙ sym (and_true (p x)))
      ∙ sym (list_all-append p xs (x ∷ []))
      ∙ sym (run-all test (xs ++ x ∷ []) w);
  asks = subst (λ qs. Heard s qs s'') (sym (asked-all test (xs ++ x ∷ []) w)) (one_heard test xs x w s s' s'' (subst (λ qs. Heard s qs s') (asked-all test xs w) h.asks) k.asks);
}

filter-one : {A : Type 0} (p : A → Bool) (xs : List A) (x : A) → filter p (xs ++ x ∷ []) ≡ filter p xs ++ (if p x then x ∷ [] else [])
filter-one p [] x = refl
filter-one p (y ∷ xs) x = by_test (p y) (filter-one p xs x)
  where
    by_test : (b : Bool) → filter p (xs ++ x ∷ []) ≡ filter p xs ++ (if p x then x ∷ [] else []) → (if b then y ∷ filter p (xs ++ x ∷ []) else filter p (xs ++ x ∷ [])) ≡ (if b then y ∷ filter p xs else filter p xs) ++ (if p x then x ∷ [] else [])
    by_test true e = ap (λ ys. y ∷ ys) e
    by_test false e = e

pub told_those_more : {A : Type 0} (test : A → Rule Bool) (xs : List A) (x : A) (w : World) (s s' s'' : List Ask) (ys : List A) (b : Bool) → Told (those test xs) w s s' ys → Told (test x) w s' s'' b → Told (those test (xs ++ x ∷ [])) w s s'' (ys ++ (if b then x ∷ [] else []))
told_those_more {A} test xs x w s s' s'' ys b h k = record {
  gives =
      let p : A → Bool = λ y. run (test y) w in
      ap (λ zs. zs ++ (if b then x ∷ [] else [])) (h.gives ∙ run-those test xs w)
      ∙ ap (λ y. filter p xs ++ (if y then x ∷ [] else [])) k.gives
      ∙ sym (filter-one p xs x)
      ∙ sym (run-those test (xs ++ x ∷ []) w);
  asks = subst (λ qs. Heard s qs s'') (sym (asked-those test (xs ++ x ∷ []) w)) (one_heard test xs x w s s' s'' (subst (λ qs. Heard s qs s') (asked-those test xs w) h.asks) k.asks);
}

pub told_kept : {A : Type 0} (test : A → Rule Bool) (xs : List A) (x : A) (w : World) (s s' s'' : List Ask) (ys : List A) (b : Bool) → b ≡ true → Told (those test xs) w s s' ys → Told (test x) w s' s'' b → Told (those test (xs ++ x ∷ [])) w s s'' (ys ++ x ∷ [])
told_kept test xs x w s s' s'' ys b e h k = subst (λ v. Told (those test (xs ++ x ∷ [])) w s s'' (ys ++ (if v then x ∷ [] else []))) e (told_those_more test xs x w s s' s'' ys b h k)

pub told_left : {A : Type 0} (test : A → Rule Bool) (xs : List A) (x : A) (w : World) (s s' s'' : List Ask) (ys : List A) (b : Bool) → b ≡ false → Told (those test xs) w s s' ys → Told (test x) w s' s'' b → Told (those test (xs ++ x ∷ [])) w s s'' ys
told_left test xs x w s s' s'' ys b e h k = subst (λ zs. Told (those test (xs ++ x ∷ [])) w s s'' zs) (append-nil ys) (subst (λ v. Told (those test (xs ++ x ∷ [])) w s s'' (ys ++ (if v then x ∷ [] else []))) e (told_those_more test xs x w s s' s'' ys b h k))
