-- Laws of rules: what they rest on, what they are put together of, and how they may be rewritten in place.
use Rattle.std.specs.Prelude.{◌≡◌, List, [], ◌∷◌, ◌++◌, refl, ◌⊎◌, map, filter, Option, None, Some, Bool, true, false}
use Rattle.std.specs.Prelude.{if◌then◌else◌}
use Rattle.std.specs.List.{flat_map}
use Rattle.std.proofs.Common.{sym, ◌∙◌, ap, subst, append-nil, append_assoc, inl, inr}
use Rattle.dialogue.specs.Dialogue.{Dialogue, done, ask, run, asked, bind, each, in_turn, otherwise, first_found, In}
use Rattle.dialogue.specs.Dialogue.{AnswerAlike}

-- a rule gives the same, and asks the same, in two worlds that answer alike what it asked in the first
pub run_alike : {Q : Type 0} {R : Q → Type 0} {A : Type 0} (d : Dialogue R A) (w v : (q : Q) → R q)
    → AnswerAlike w v (asked d w) → run d v ≡ run d w
run_alike (done a) w v h = refl
run_alike (ask q k) w v h =
    subst (λ r. run (k r) v ≡ run (k (w q)) w) (h q (inl refl)) (run_alike (k (w q)) w v (λ p i. h p (inr i)))

pub asked_alike : {Q : Type 0} {R : Q → Type 0} {A : Type 0} (d : Dialogue R A) (w v : (q : Q) → R q)
    → AnswerAlike w v (asked d w) → asked d v ≡ asked d w
asked_alike (done a) w v h = refl
asked_alike (ask q k) w v h =
    subst (λ r. q ∷ asked (k r) v ≡ q ∷ asked (k (w q)) w) (h q (inl refl))
    (ap (λ qs. q ∷ qs) (asked_alike (k (w q)) w v (λ p i. h p (inr i))))

pub run-bind :
    {Q : Type 0} {R : Q → Type 0} {A B : Type 0} (d : Dialogue R A) (f : A → Dialogue R B) (w : (q : Q) → R q)
    → run (bind d f) w ≡ run (f (run d w)) w
run-bind (done a) f w = refl
run-bind (ask q k) f w = run-bind (k (w q)) f w

pub asked-bind :
    {Q : Type 0} {R : Q → Type 0} {A B : Type 0} (d : Dialogue R A) (f : A → Dialogue R B) (w : (q : Q) → R q)
    → asked (bind d f) w ≡ asked d w ++ asked (f (run d w)) w
asked-bind (done a) f w = refl
asked-bind (ask q k) f w = ap (λ qs. q ∷ qs) (asked-bind (k (w q)) f w)

pub In-append : {A : Type 0} (x : A) (ys zs : List A) → In x (ys ++ zs) → In x ys ⊎ In x zs
In-append x [] zs h = inr h
In-append x (y ∷ ys) zs (inl e) = inl (inl e)
In-append x (y ∷ ys) zs (inr i) = elim (In-append x ys zs i) [ inl j ↦ inl (inr j) | inr k ↦ inr k ]

pub In-left : {A : Type 0} (x : A) (ys zs : List A) → In x ys → In x (ys ++ zs)
In-left x [] zs h = elim h [ ]
In-left x (y ∷ ys) zs (inl e) = inl e
In-left x (y ∷ ys) zs (inr i) = inr (In-left x ys zs i)

pub In-right : {A : Type 0} (x : A) (ys zs : List A) → In x zs → In x (ys ++ zs)
In-right x [] zs h = h
In-right x (y ∷ ys) zs h = inr (In-right x ys zs h)

pub run-each : {Q : Type 0} {R : Q → Type 0} {A B : Type 0} (f : A → Dialogue R B) (xs : List A) (w : (q : Q) → R q)
    → run (each f xs) w ≡ map (λ x. run (f x) w) xs
run-each f [] w = refl
run-each f (x ∷ xs) w =
    run-bind (f x) (λ y. bind (each f xs) (λ ys. done (y ∷ ys))) w
    ∙ run-bind (each f xs) (λ ys. done (run (f x) w ∷ ys)) w
    ∙ ap (λ ys. run (f x) w ∷ ys) (run-each f xs w)

pub asked-each : {Q : Type 0} {R : Q → Type 0} {A B : Type 0} (f : A → Dialogue R B) (xs : List A) (w : (q : Q) → R q)
    → asked (each f xs) w ≡ flat_map (λ x. asked (f x) w) xs
asked-each f [] w = refl
asked-each f (x ∷ xs) w =
    asked-bind (f x) (λ y. bind (each f xs) (λ ys. done (y ∷ ys))) w
    ∙ ap (λ qs. asked (f x) w ++ qs) (asked-bind (each f xs) (λ ys. done (run (f x) w ∷ ys)) w)
    ∙ ap (λ qs. asked (f x) w ++ qs) (append-nil _ ∙ asked-each f xs w)

-- rules are put together in any grouping
pub bind-assoc : {Q : Type 0} {R : Q → Type 0} {A B C : Type 0} (d : Dialogue R A) (f : A → Dialogue R B)
    (g : B → Dialogue R C)
    → bind (bind d f) g ≡ bind d (λ x. bind (f x) g)
bind-assoc (done a) f g = refl
bind-assoc (ask q k) f g = λ i. ask q (λ r. bind-assoc (k r) f g i)

-- a rule that only hands its value on changes nothing
pub bind-done : {Q : Type 0} {R : Q → Type 0} {A : Type 0} (d : Dialogue R A) → bind d (λ x. done x) ≡ d
bind-done (done a) = refl
bind-done (ask q k) = λ i. ask q (λ r. bind-done (k r) i)

pub bind-same : {Q : Type 0} {R : Q → Type 0} {A B : Type 0} (d : Dialogue R A) (f g : A → Dialogue R B)
    → ((x : A) → f x ≡ g x) → bind d f ≡ bind d g
bind-same d f g h = λ i. bind d (λ x. h x i)

-- a loop may stop anywhere and go on from there
module _ {Q : Type 0} {R : Q → Type 0} {S A : Type 0} (step : S → A → Dialogue R S) where
  pub in_turn-append : (s : S) (xs ys : List A)
      → in_turn step s (xs ++ ys) ≡ bind (in_turn step s xs) (λ t. in_turn step t ys)
  in_turn-append s [] ys = refl
  in_turn-append s (x ∷ xs) ys =
      bind-same (step s x) _ _ (λ t. in_turn-append t xs ys)
      ∙ sym (bind-assoc (step s x) (λ t. in_turn step t xs) (λ t. in_turn step t ys))

  pub in_turn-more : (s : S) (xs : List A) (x : A)
      → in_turn step s (xs ++ x ∷ []) ≡ bind (in_turn step s xs) (λ t. step t x)
  in_turn-more s xs x = in_turn-append s xs (x ∷ []) ∙ bind-same (in_turn step s xs) _ _ (λ t. bind-done (step t x))

module _ {Q : Type 0} {R : Q → Type 0} {A B : Type 0} (f : A → Dialogue R B) where
  each_behind : (y : B) (xs ys : List A) → Dialogue R (List B)
  each_behind y xs ys = bind (each f xs) (λ bs. bind (each f ys) (λ cs. done (y ∷ bs ++ cs)))

  put_before : (y : B) (xs ys : List A) → bind (bind (each f xs) (λ bs. bind (each f ys) (λ cs. done (bs ++ cs))))
      (λ ds. done (y ∷ ds)) ≡ each_behind y xs ys
  unfolding each_behind
  put_before y xs ys =
      bind-assoc (each f xs) (λ bs. bind (each f ys) (λ cs. done (bs ++ cs))) (λ ds. done (y ∷ ds))
      ∙ bind-same (each f xs) _ _ (λ bs. bind-assoc (each f ys) (λ cs. done (bs ++ cs)) (λ ds. done (y ∷ ds)))

  put_after : (x : A) (xs ys : List A)
      → bind (f x) (λ y. each_behind y xs ys) ≡ bind (each f (x ∷ xs)) (λ bs. bind (each f ys) (λ cs. done (bs ++ cs)))
  unfolding each_behind
  put_after x xs ys = sym (
      let rest : List B → Dialogue R (List B) = λ bs. bind (each f ys) (λ cs. done (bs ++ cs)) in
      bind-assoc (f x) (λ y. bind (each f xs) (λ bs. done (y ∷ bs))) rest
      ∙ bind-same (f x) _ _ (λ y. bind-assoc (each f xs) (λ bs. done (y ∷ bs)) rest))

  -- the items of a list, and then those of another
  pub each-append : (xs ys : List A)
      → each f (xs ++ ys) ≡ bind (each f xs) (λ bs. bind (each f ys) (λ cs. done (bs ++ cs)))
  each-append [] ys = sym (bind-done (each f ys))
  each-append (x ∷ xs) ys =
      bind-same (f x) _ _ (λ y. ap (λ d. bind d (λ ds. done (y ∷ ds))) (each-append xs ys) ∙ put_before y xs ys)
      ∙ put_after x xs ys

  -- a loop that puts what a rule gives behind what was there
  pub each-in_turn : (bs : List B) (xs : List A)
      → in_turn (λ cs x. bind (f x) (λ c. done (cs ++ c ∷ []))) bs xs ≡ bind (each f xs) (λ cs. done (bs ++ cs))
  each-in_turn bs [] = ap (λ ds. done ds) (sym (append-nil bs))
  each-in_turn bs (x ∷ xs) =
      bind-assoc (f x) (λ c. done (bs ++ c ∷ [])) (λ cs. in_turn (λ ds y. bind (f y) (λ d. done (ds ++ d ∷ []))) cs xs)
      ∙ bind-same (f x) _ _ (λ c. each-in_turn (bs ++ c ∷ []) xs ∙ moved c)
      ∙ sym (bind-assoc (f x) (λ y. bind (each f xs) (λ ys. done (y ∷ ys))) (λ cs. done (bs ++ cs)))
    where
      moved : (c : B) → bind (each f xs) (λ cs. done ((bs ++ c ∷ []) ++ cs)) ≡ bind
          (bind (each f xs) (λ ys. done (c ∷ ys))) (λ cs. done (bs ++ cs))
      moved c =
          bind-same (each f xs) _ _ (λ cs. ap (λ ds. done ds) (append_assoc bs (c ∷ []) cs))
          ∙ sym (bind-assoc (each f xs) (λ ys. done (c ∷ ys)) (λ cs. done (bs ++ cs)))

module _ {Q : Type 0} {R : Q → Type 0} {A : Type 0} where
  otherwise-bind : (next last : Dialogue R (Option A)) (o : Option A)
      → otherwise (bind next (otherwise last)) o ≡ bind (otherwise next o) (otherwise last)
  otherwise-bind next last None = refl
  otherwise-bind next last (Some a) = refl

  otherwise-none : (o : Option A) → otherwise {R = R} (done None) o ≡ done o
  otherwise-none None = refl
  otherwise-none (Some a) = refl

  -- some rules in order, and then others
  pub first_found-append : (rs qs : List (Dialogue R (Option A)))
      → first_found (rs ++ qs) ≡ bind (first_found rs) (otherwise (first_found qs))
  first_found-append [] qs = refl
  first_found-append (r ∷ rs) qs =
      bind-same r (otherwise (first_found (rs ++ qs))) _
      (λ o. ap (λ d. otherwise d o) (first_found-append rs qs) ∙ otherwise-bind (first_found rs) (first_found qs) o)
      ∙ sym (bind-assoc r (otherwise (first_found rs)) (otherwise (first_found qs)))

  pub first_found-one : (r : Dialogue R (Option A)) → first_found (r ∷ []) ≡ r
  first_found-one r = bind-same r (otherwise (done None)) (λ o. done o) otherwise-none ∙ bind-done r

module _ {Q : Type 0} {R : Q → Type 0} {X A : Type 0} (f : X → Dialogue R (Option A)) where
  -- a loop that asks in order until one answers
  found_in_turn : (o : Option A) (xs : List X)
      → in_turn (λ found x. otherwise (f x) found) o xs ≡ otherwise (first_found (map f xs)) o
  found_in_turn None [] = refl
  found_in_turn (Some a) [] = refl
  found_in_turn None (x ∷ xs) = bind-same (f x) _ _ (λ o. found_in_turn o xs)
  found_in_turn (Some a) (x ∷ xs) = found_in_turn (Some a) xs

  pub first_found-in_turn : (xs : List X) → first_found (map f xs) ≡ in_turn (λ found x. otherwise (f x) found) None xs
  first_found-in_turn xs = sym (found_in_turn None xs)

  -- those that find nothing and ask nothing may be left out
  module _ (matters : X → Bool) (silent : (x : X) → matters x ≡ false → f x ≡ done None) where
    one_more : (x : X) (xs ys : List X) → first_found (map f xs) ≡ first_found (map f ys) → (b : Bool) → matters x ≡ b
        → bind (f x) (otherwise (first_found (map f xs))) ≡ first_found (map f (if b then x ∷ ys else ys))
    one_more x xs ys h true e = ap (λ r. bind (f x) (otherwise r)) h
    one_more x xs ys h false e = ap (λ d. bind d (otherwise (first_found (map f xs)))) (silent x e) ∙ h

    pub first_found-filter : (xs : List X) → first_found (map f xs) ≡ first_found (map f (filter matters xs))
    first_found-filter [] = refl
    first_found-filter (x ∷ xs) = one_more x xs (filter matters xs) (first_found-filter xs) (matters x) refl
