-- Questions that are kept as they came are the set of them.
use Rattle.std.proofs.Common.{◌≡◌, ℕ, ◌+◌, ◌<◌, Bool, true, false, List, [], ◌∷◌, ◌++◌, ◌||◌, if◌then◌else◌}
use Rattle.std.proofs.Common.{length, slice_index_or, refl, sym, ap, ◌∙◌, subst, inl, inr, ◌⊎◌, true≢false, arith}
use Rattle.std.proofs.Common.{zero, suc}
use Rattle.std.specs.Cmp.{IsTotalOrder}
use Rattle.std.specs.FinSet.{IsAntisymmetric}
use Rattle.std.specs.List.{list_any, Contains, IsDistinct}
use Rattle.std.specs.List.Sorted.{IsSorted, IsPermutation}
use Rattle.std.specs.Ordering.{is_lt, is_eq, eq_by_cmp, ordering_reverse}
use Rattle.std.specs.declared.cmp.Ordering.{Ordering}
use Rattle.std.specs.declared.cmp.Ordering.TheVariants.{Less, Equal, Greater}
use Rattle.std.proofs.lemmas.List.Sorted.{Contains-permutation, IsPermutation-sym}
use Rattle.std.proofs.lemmas.Map.Keys.{IsDistinct-IsPermutation}
use native.Mathlib.Numerals.{unary_clauses}
use Rattle.indexmap.specs.IndexSet.{insert_key}
use Rattle.dialogue.specs.Dialogue.{In}
use Rattle.dialogue.specs.DialogueLaws.{In-append, In-left, In-right}
use Rattle.dialogue.specs.Sorted.{put_each, Rising, Below}
use Rattle.dialogue.specs.SortedLaws.{in_each, each_in, rising_each, same_list}
use Rattle.dialogue.specs.Told.{Heard}

in_at : {K : Type 0} (x d : K) (xs : List K) (k : ℕ) → k < length xs → slice_index_or xs k d ≡ x → In x xs
in_at x d [] k l e = absurd (omega (l, arith))
in_at x d (y ∷ ys) zero l e = inl (sym e)
in_at x d (y ∷ ys) (suc k) l e = inr (in_at x d ys k (omega (l, arith)) e)

at_in : {K : Type 0} (x : K) (xs : List K) → In x xs → Contains xs x
at_in x [] h = absurd h
at_in x (y ∷ ys) (inl e) = (0, omega arith, sym e)
at_in x (y ∷ ys) (inr i) = let h = at_in x ys i in (suc h.0, omega (h.1, arith), h.2)

moved : {K : Type 0} (xs ys : List K) → IsPermutation xs ys → (q : K) → In q xs → In q ys
moved xs ys p q i = let h = Contains-permutation xs ys q p (at_in q xs i) in in_at q q ys h.0 h.1 h.2

module _ {K : Type 0} (R : K → K → Ordering) (o : IsTotalOrder R) (exact : IsAntisymmetric R) (E : K → K → Bool)
    (ties : (x y : K) → E x y ≡ eq_by_cmp R x y) where
  tied : (r : Ordering) → is_eq r ≡ true → r ≡ Equal
  tied Less e = absurd (true≢false (sym e))
  tied Equal e = refl
  tied Greater e = absurd (true≢false (sym e))

  same : (x y : K) → E x y ≡ true → x ≡ y
  same x y e = exact x y (tied (R x y) (sym (ties x y) ∙ e))

  found : (q : K) (ks : List K) → list_any (E q) ks ≡ true → In q ks
  found q [] h = absurd (true≢false (sym h))
  found q (x ∷ xs) h = by (E q x) refl (found q xs)
    where
      by : (b : Bool) → E q x ≡ b → (list_any (E q) xs ≡ true → In q xs) → In q (x ∷ xs)
      by true e rest = inl (same q x e)
      by false e rest = inr (rest (sym (ap (λ c. c || list_any (E q) xs) e) ∙ h))

  kept_in : (p q : K) (ks : List K) → In p (insert_key E ks q) → In p ks ⊎ In p (q ∷ [])
  kept_in p q ks = by (list_any (E q) ks)
    where
      by : (b : Bool) → In p (if b then ks else ks ++ q ∷ []) → In p ks ⊎ In p (q ∷ [])
      by true h = inl h
      by false h = In-append p ks (q ∷ []) h

  in_kept : (p q : K) (ks : List K) → In p ks ⊎ In p (q ∷ []) → In p (insert_key E ks q)
  in_kept p q ks h = by (list_any (E q) ks) refl h
    where
      by : (b : Bool) → list_any (E q) ks ≡ b → In p ks ⊎ In p (q ∷ []) → In p (if b then ks else ks ++ q ∷ [])
      by true e (inl i) = i
      by true e (inr (inl s)) = subst (λ x. In x ks) (sym s) (found q ks e)
      by true e (inr (inr f)) = absurd f
      by false e (inl i) = In-left p ks (q ∷ []) i
      by false e (inr i) = In-right p ks (q ∷ []) i

  of_none : (p : K) (ks : List K) → In p (put_each R [] ks) → In p ks
  of_none p ks i = elim (in_each R o exact p [] ks i) [ inl f ↦ absurd f | inr j ↦ j ]

  pub put_heard : (q : K) (ks : List K) → Heard (put_each R [] ks) (q ∷ []) (put_each R [] (insert_key E ks q))
  put_heard q ks = record {
    now =
        λ p i. elim (kept_in p q ks (of_none p (insert_key E ks q) i)) [
          | inl j ↦ inl (each_in R o exact p [] ks (inr j))
          | inr j ↦ inr j
        ];
    all =
        λ p h. each_in R o exact p [] (insert_key E ks q)
        (inr (in_kept p q ks (elim h [ inl j ↦ inl (of_none p ks j) | inr j ↦ inr j ])));
  }

  below_all : (k x : K) (xs : List K) → R k x ≡ Less → Below R x xs → Below R k xs
  below_all k x [] e b = tt
  below_all k x (y ∷ ys) e b = (o.trans k x y e b.0, below_all k x ys e b.1)

  less : (x y : K) (r : Ordering) → R y x ≡ r → is_lt r ≡ false → E x y ≡ false → R x y ≡ Less
  less x y Less e u d = absurd (true≢false u)
  less x y Equal e u d = absurd (true≢false (sym (ties x y ∙ ap is_eq (o.antisymm x y ∙ ap ordering_reverse e)) ∙ d))
  less x y Greater e u d = o.antisymm x y ∙ ap ordering_reverse e

  rises : (xs : List K) → IsSorted R xs → IsDistinct E xs → Rising R xs
  unfolding IsDistinct
  rises [] u d = tt
  rises (x ∷ []) u d = (tt, tt)
  rises (x ∷ y ∷ ys) u d =
      let sorted : IsSorted R (y ∷ ys) =
      λ k z a b. simp unary_clauses (simp unary_clauses at (u (k + 1) z (omega arith) (omega (b, arith)))) in
      let more : Rising R (y ∷ ys) = rises (y ∷ ys) sorted d.1 in
      let e : R x y ≡ Less = less x y (R y x) refl (u 0 x (omega arith) (omega arith)) d.0.0 in
      ((e, below_all x y ys e more.0), more)

  -- sorted, they are the list of the set
  pub sorted_rise : (ks xs : List K) → IsPermutation ks xs → IsSorted R xs → ((x y : K) → E x y ≡ E y x)
      → IsDistinct E ks → Rising R xs
  sorted_rise ks xs p u flips d = rises xs u (IsDistinct-IsPermutation E flips ks xs p d)

  pub sorted_same : (ks xs : List K) → IsPermutation ks xs → Rising R xs → xs ≡ put_each R [] ks
  sorted_same ks xs p u = same_list R o exact xs (put_each R [] ks) u (rising_each R o exact [] ks tt)
      (λ q i. each_in R o exact q [] ks (inr (moved xs ks (IsPermutation-sym ks xs p) q i)))
      (λ q i. moved ks xs p q (of_none q ks i))
