-- What a function gives and asks, put together of what its calls give and ask.
use Rattle.std.specs.Prelude.{◌≡◌, List, [], ◌∷◌, ◌++◌, refl, map, Option, None, Some}
use Rattle.std.proofs.Common.{sym, ◌∙◌, ap, subst, inl, inr}
use Rattle.std.proofs.lemmas.List.{map-append}
use Rattle.dialogue.specs.Dialogue.{Dialogue, done, ask, bind, run, asked, each, in_turn, otherwise, first_found, In}
use Rattle.dialogue.specs.DialogueLaws.{run-bind, asked-bind, In-append, In-left, In-right, in_turn-more, each-append}
use Rattle.dialogue.specs.DialogueLaws.{first_found-append, first_found-one}
use Rattle.dialogue.specs.Told.{Heard, Told}

pub heard_none : {Q : Type 0} (s : List Q) → Heard s [] s
heard_none s = record { now = λ q h. inl h; all = λ q. elim [ inl h ↦ h | inr f ↦ absurd f ] }

pub heard_more : {Q : Type 0} (s s' s'' ps qs : List Q) → Heard s ps s' → Heard s' qs s'' → Heard s (ps ++ qs) s''
heard_more s s' s'' ps qs h k = record {
  now = λ q i. elim (k.now q i) [
    | inl j ↦ elim (h.now q j) [ inl a ↦ inl a | inr b ↦ inr (In-left q ps qs b) ]
    | inr j ↦ inr (In-right q ps qs j)
  ];
  all = λ q. elim [
    | inl a ↦ k.all q (inl (h.all q (inl a)))
    | inr b ↦ elim (In-append q ps qs b) [ inl c ↦ k.all q (inl (h.all q (inr c))) | inr c ↦ k.all q (inr c) ]
  ];
}

-- the order and the repeats of the questions do not matter
pub heard_same : {Q : Type 0} (s s' ps qs : List Q) → ((q : Q) → In q ps → In q qs) → ((q : Q) → In q qs → In q ps)
    → Heard s ps s' → Heard s qs s'
heard_same s s' ps qs f g h = record {
  now = λ q i. elim (h.now q i) [ inl j ↦ inl j | inr j ↦ inr (f q j) ];
  all = λ q. elim [ inl j ↦ h.all q (inl j) | inr j ↦ h.all q (inr (g q j)) ];
}

pub told_done : {Q : Type 0} {R : Q → Type 0} {A : Type 0} (w : (q : Q) → R q) (s : List Q) (a : A)
    → Told {Q = Q} {R = R} (done a) w s s a
told_done w s a = record { gives = refl; asks = heard_none s }

-- one question, and then the rest of the rule
pub told_ask : {Q : Type 0} {R : Q → Type 0} {A : Type 0} (q : Q) (k : R q → Dialogue R A) (w : (q : Q) → R q)
    (old mid new : List Q) (r : A) → Heard old (q ∷ []) mid → Told (k (w q)) w mid new r → Told (ask q k) w old new r
told_ask q k w old mid new r h t =
    record { gives = t.gives; asks = heard_more old mid new (q ∷ []) (asked (k (w q)) w) h t.asks }

-- a rule, and then another with what the first gave
pub told_bind : {Q : Type 0} {R : Q → Type 0} {A B : Type 0} (d : Dialogue R A) (f : A → Dialogue R B)
    (w : (q : Q) → R q) (old mid new : List Q) (x : A) (r : B) → Told d w old mid x → Told (f x) w mid new r
    → Told (bind d f) w old new r
told_bind d f w old mid new x r h k = record {
  gives = k.gives ∙ ap (λ y. run (f y) w) h.gives ∙ sym (run-bind d f w);
  asks =
      let rest = subst (λ y. Heard mid (asked (f y) w) new) h.gives k.asks in
      subst (λ qs. Heard old qs new) (sym (asked-bind d f w))
      (heard_more old mid new (asked d w) (asked (f (run d w)) w) h.asks rest);
}

-- what a rule gave, changed by a function that asks nothing
pub told_map : {Q : Type 0} {R : Q → Type 0} {A B : Type 0} (d : Dialogue R A) (f : A → B) (w : (q : Q) → R q)
    (old new : List Q) (x : A)
    → Told d w old new x → Told (bind d (λ y. done (f y))) w old new (f x)
told_map d f w old new x h = told_bind d (λ y. done (f y)) w old new new x (f x) h (told_done w new (f x))

-- a rule that asks nothing
pub told_value : {Q : Type 0} {R : Q → Type 0} {A : Type 0} (w : (q : Q) → R q) (s : List Q) (x y : A) → x ≡ y
    → Told {R = R} (done y) w s s x
told_value w s x y e = subst (λ z. Told (done z) w s s x) e (told_done w s x)

-- a rule in place of an equal one
pub told_same :
    {Q : Type 0} {R : Q → Type 0} {A : Type 0} (d e : Dialogue R A) (w : (q : Q) → R q) (old new : List Q) (x : A)
    → d ≡ e → Told d w old new x → Told e w old new x
told_same d e w old new x is h = subst (λ c. Told c w old new x) is h

-- what was asked before is asked at no cost again
pub told_again : {Q : Type 0} {R : Q → Type 0} {A : Type 0} (d : Dialogue R A) (w : (q : Q) → R q)
    (old mid now : List Q) (x : A)
    → Told d w old mid x → ((q : Q) → In q mid → In q now) → Told d w now now x
told_again d w old mid now x h sub = record {
  gives = h.gives;
  asks = record { now = λ q i. inl i; all = λ q. elim [ inl i ↦ i | inr i ↦ sub q (h.asks.all q (inr i)) ] };
}

-- loops: a front of a list, and one item more
module _ {Q : Type 0} {R : Q → Type 0} {A : Type 0} (w : (q : Q) → R q) (xs : List A) (x : A)
    (old mid new : List Q) where
  pub in_turn_told : {S : Type 0} (step : S → A → Dialogue R S) (s t u : S)
      → Told (in_turn step s xs) w old mid t → Told (step t x) w mid new u
      → Told (in_turn step s (xs ++ x ∷ [])) w old new u
  in_turn_told {S = S} step s t u h k =
      let all : Dialogue R S = bind (in_turn step s xs) (λ y. step y x) in
      told_same all (in_turn step s (xs ++ x ∷ [])) w old new u (sym (in_turn-more step s xs x))
      (told_bind (in_turn step s xs) (λ y. step y x) w old mid new t u h k)

  pub each_told : {B : Type 0} (f : A → Dialogue R B) (ys : List B) (y : B)
      → Told (each f xs) w old mid ys → Told (f x) w mid new y → Told (each f (xs ++ x ∷ [])) w old new (ys ++ y ∷ [])
  each_told {B = B} f ys y h k =
      let rest : List B → Dialogue R (List B) = λ bs. bind (each f (x ∷ [])) (λ cs. done (bs ++ cs)) in
      let one : Told (each f (x ∷ [])) w mid new (y ∷ []) = told_map (f x) (λ z. z ∷ []) w mid new y k in
      told_same (bind (each f xs) rest) (each f (xs ++ x ∷ [])) w old new (ys ++ y ∷ [])
      (sym (each-append f xs (x ∷ [])))
      (told_bind (each f xs) rest w old mid new ys (ys ++ y ∷ []) h
      (told_map (each f (x ∷ [])) (λ cs. ys ++ cs) w mid new (y ∷ []) one))

-- rules that are tried one after another
module _ {Q : Type 0} {R : Q → Type 0} {A : Type 0} (w : (q : Q) → R q) where
  pub found_here : (r : Dialogue R (Option A)) (rs : List (Dialogue R (Option A))) (old new : List Q) (a : A)
      → Told r w old new (Some a) → Told (first_found (r ∷ rs)) w old new (Some a)
  found_here r rs old new a h =
      told_bind r (otherwise (first_found rs)) w old new new (Some a) (Some a) h (told_done w new (Some a))

  pub found_past : (r : Dialogue R (Option A)) (rs : List (Dialogue R (Option A))) (old mid new : List Q) (o : Option A)
      → Told r w old mid None → Told (first_found rs) w mid new o → Told (first_found (r ∷ rs)) w old new o
  found_past r rs old mid new o h k = told_bind r (otherwise (first_found rs)) w old mid new None o h k

  pub found_last : (r : Dialogue R (Option A)) (old new : List Q) (o : Option A) → Told r w old new o
      → Told (first_found (r ∷ [])) w old new o
  found_last r old new o h = told_same r (first_found (r ∷ [])) w old new o (sym (first_found-one r)) h

  -- none of those before, and then some others
  pub found_behind : (rs qs : List (Dialogue R (Option A))) (old mid new : List Q) (o : Option A)
      → Told (first_found rs) w old mid None → Told (first_found qs) w mid new o
      → Told (first_found (rs ++ qs)) w old new o
  found_behind rs qs old mid new o h k =
      let all : Dialogue R (Option A) = bind (first_found rs) (otherwise (first_found qs)) in
      told_same all (first_found (rs ++ qs)) w old new o (sym (first_found-append rs qs))
      (told_bind (first_found rs) (otherwise (first_found qs)) w old mid new None o h k)

  module _ {X : Type 0} (f : X → Dialogue R (Option A)) (xs : List X) (x : X) (old mid new : List Q)
      (h : Told (first_found (map f xs)) w old mid None) where
    -- a loop that found nothing yet, and one item more
    pub found_more : (o : Option A) → Told (f x) w mid new o → Told (first_found (map f (xs ++ x ∷ []))) w old new o
    found_more o k =
        subst (λ rs. Told (first_found rs) w old new o) (sym (map-append f xs (x ∷ [])))
        (found_behind (map f xs) (f x ∷ []) old mid new o h (found_last (f x) mid new o k))

    -- a loop that ends here, before the rest of its list
    pub found_end : (ys : List X) (a : A) → Told (f x) w mid new (Some a)
        → Told (first_found (map f (xs ++ x ∷ ys))) w old new (Some a)
    found_end ys a k =
        subst (λ rs. Told (first_found rs) w old new (Some a)) (sym (map-append f xs (x ∷ ys)))
        (found_behind (map f xs) (f x ∷ map f ys) old mid new (Some a) h (found_here (f x) (map f ys) mid new a k))
