-- A list in order, each once, is decided by its members.
use Rattle.std.specs.Prelude.{◌≡◌, List, [], ◌∷◌, refl, ◌⊎◌}
use Rattle.std.proofs.Common.{sym, ◌∙◌, ap, inl, inr}
use Rattle.std.specs.BTreeSet.{insert_key}
use Rattle.std.specs.Cmp.{IsTotalOrder}
use Rattle.std.specs.FinSet.{IsAntisymmetric}
use Rattle.std.specs.Ordering.{match_ordering, ordering_reverse}
use Rattle.std.specs.declared.cmp.Ordering.{Ordering}
use Rattle.std.specs.declared.cmp.Ordering.TheVariants.{Less, Equal, Greater}
use Rattle.dialogue.specs.Dialogue.{In}
use Rattle.dialogue.specs.Sorted.{put_each, Below, Rising}

module _ {K : Type 0} (R : K → K → Ordering) (o : IsTotalOrder R) (exact : IsAntisymmetric R) where
  by_put : (k x q : K) (xs more : List K) (r : Ordering) → (In q more → (q ≡ k) ⊎ In q xs)
      → In q (match_ordering r (k ∷ x ∷ xs) (x ∷ xs) (x ∷ more)) → (q ≡ k) ⊎ In q (x ∷ xs)
  by_put k x q xs more Less h (inl e) = inl e
  by_put k x q xs more Less h (inr i) = inr i
  by_put k x q xs more Equal h i = inr i
  by_put k x q xs more Greater h (inl e) = inr (inl e)
  by_put k x q xs more Greater h (inr i) = elim (h i) [ inl e ↦ inl e | inr j ↦ inr (inr j) ]

  pub in_put : (k q : K) (xs : List K) → In q (insert_key R xs k) → (q ≡ k) ⊎ In q xs
  in_put k q [] (inl e) = inl e
  in_put k q [] (inr f) = absurd f
  in_put k q (x ∷ xs) h = by_put k x q xs (insert_key R xs k) (R k x) (in_put k q xs) h

  to_put : (k x q : K) (xs more : List K) (r : Ordering) → R k x ≡ r → ((q ≡ k) ⊎ In q xs → In q more)
      → (q ≡ k) ⊎ In q (x ∷ xs) → In q (match_ordering r (k ∷ x ∷ xs) (x ∷ xs) (x ∷ more))
  to_put k x q xs more Less e h i = i
  to_put k x q xs more Equal e h (inl i) = inl (i ∙ exact k x e)
  to_put k x q xs more Equal e h (inr i) = i
  to_put k x q xs more Greater e h (inl i) = inr (h (inl i))
  to_put k x q xs more Greater e h (inr (inl i)) = inl i
  to_put k x q xs more Greater e h (inr (inr i)) = inr (h (inr i))

  pub put_in : (k q : K) (xs : List K) → (q ≡ k) ⊎ In q xs → In q (insert_key R xs k)
  put_in k q [] h = h
  put_in k q (x ∷ xs) h = to_put k x q xs (insert_key R xs k) (R k x) refl (put_in k q xs) h

  pub in_each : (q : K) (s xs : List K) → In q (put_each R s xs) → In q s ⊎ In q xs
  in_each q s [] h = inl h
  in_each q s (x ∷ xs) h = elim (in_each q (insert_key R s x) xs h) [
    | inl i ↦ elim (in_put x q s i) [ inl e ↦ inr (inl e) | inr j ↦ inl j ]
    | inr j ↦ inr (inr j)
  ]

  pub each_in : (q : K) (s xs : List K) → In q s ⊎ In q xs → In q (put_each R s xs)
  each_in q s [] (inl i) = i
  each_in q s [] (inr f) = absurd f
  each_in q s (x ∷ xs) (inl i) = each_in q (insert_key R s x) xs (inl (put_in x q s (inr i)))
  each_in q s (x ∷ xs) (inr (inl e)) = each_in q (insert_key R s x) xs (inl (put_in x q s (inl e)))
  each_in q s (x ∷ xs) (inr (inr i)) = each_in q (insert_key R s x) xs (inr i)

  below_all : (k x : K) (xs : List K) → R k x ≡ Less → Below R x xs → Below R k xs
  below_all k x [] e b = tt
  below_all k x (y ∷ ys) e b = (o.trans k x y e b.0, below_all k x ys e b.1)

  below_by : (z k x : K) (xs more : List K) (r : Ordering) → R z k ≡ Less → R z x ≡ Less → Below R z xs
      → Below R z more → Below R z (match_ordering r (k ∷ x ∷ xs) (x ∷ xs) (x ∷ more))
  below_by z k x xs more Less e f b c = (e, (f, b))
  below_by z k x xs more Equal e f b c = (f, b)
  below_by z k x xs more Greater e f b c = (f, c)

  below_put : (z k : K) (xs : List K) → R z k ≡ Less → Below R z xs → Below R z (insert_key R xs k)
  below_put z k [] e b = (e, tt)
  below_put z k (x ∷ xs) e b = below_by z k x xs (insert_key R xs k) (R k x) e b.0 b.1 (below_put z k xs e b.1)

  rising_by : (k x : K) (xs more : List K) (r : Ordering) → R k x ≡ r → Below R x xs → Rising R xs → Rising R more
      → (R x k ≡ Less → Below R x more) → Rising R (match_ordering r (k ∷ x ∷ xs) (x ∷ xs) (x ∷ more))
  rising_by k x xs more Less e b s m h = ((e, below_all k x xs e b), (b, s))
  rising_by k x xs more Equal e b s m h = (b, s)
  rising_by k x xs more Greater e b s m h = (h (o.antisymm x k ∙ ap ordering_reverse e), m)

  pub rising_put : (k : K) (xs : List K) → Rising R xs → Rising R (insert_key R xs k)
  rising_put k [] s = (tt, tt)
  rising_put k (x ∷ xs) s =
      rising_by k x xs (insert_key R xs k) (R k x) refl s.0 s.1 (rising_put k xs s.1) (λ e. below_put x k xs e s.0)

  pub rising_each : (s xs : List K) → Rising R s → Rising R (put_each R s xs)
  rising_each s [] h = h
  rising_each s (x ∷ xs) h = rising_each (insert_key R s x) xs (rising_put x s h)

  below_in : (x q : K) (xs : List K) → Below R x xs → In q xs → R x q ≡ Less
  below_in x q [] b h = absurd h
  below_in x q (y ∷ ys) b (inl e) = ap (R x) e ∙ b.0
  below_in x q (y ∷ ys) b (inr i) = below_in x q ys b.1 i

  not_both : (x y : K) → R x y ≡ Less → R y x ≡ Less → ⊥
  not_both x y e f = let h : Less ≡ Greater = sym e ∙ o.antisymm x y ∙ ap ordering_reverse f in cc

  first_same : (x y : K) (xs ys : List K) → Below R x xs → Below R y ys → In x (y ∷ ys) → In y (x ∷ xs) → x ≡ y
  first_same x y xs ys b c (inl e) j = e
  first_same x y xs ys b c (inr i) (inl e) = sym e
  first_same x y xs ys b c (inr i) (inr j) = absurd (not_both x y (below_in x y xs b j) (below_in y x ys c i))

  rest_in : (x y q : K) (xs ys : List K) → Below R x xs → x ≡ y → In q xs → In q (y ∷ ys) → In q ys
  rest_in x y q xs ys b e i (inl f) =
      let h : R x x ≡ Less = ap (R x) (e ∙ sym f) ∙ below_in x q xs b i in absurd (not_both x x h h)
  rest_in x y q xs ys b e i (inr j) = j

  -- two lists in order with the same members are equal
  pub same_list : (xs ys : List K) → Rising R xs → Rising R ys → ((q : K) → In q xs → In q ys)
      → ((q : K) → In q ys → In q xs) → xs ≡ ys
  same_list [] [] s t f g = refl
  same_list [] (y ∷ ys) s t f g = absurd (g y (inl refl))
  same_list (x ∷ xs) [] s t f g = absurd (f x (inl refl))
  same_list (x ∷ xs) (y ∷ ys) s t f g =
      let e : x ≡ y = first_same x y xs ys s.0 t.0 (f x (inl refl)) (g y (inl refl)) in
      let to : (q : K) → In q xs → In q ys = λ q i. rest_in x y q xs ys s.0 e i (f q (inr i)) in
      let from : (q : K) → In q ys → In q xs = λ q i. rest_in y x q ys xs t.0 (sym e) i (g q (inr i)) in
      let r : xs ≡ ys = same_list xs ys s.1 t.1 to from in
      λ k. e k ∷ r k

  -- what is put in any order, as often as one likes, gives one list
  pub same_put : (s xs ys : List K) → Rising R s → ((q : K) → In q xs → In q ys) → ((q : K) → In q ys → In q xs)
      → put_each R s xs ≡ put_each R s ys
  same_put s xs ys h f g = same_list _ _ (rising_each s xs h) (rising_each s ys h)
      (λ q i. each_in q s ys (elim (in_each q s xs i) [ inl j ↦ inl j | inr j ↦ inr (f q j) ]))
      (λ q i. each_in q s xs (elim (in_each q s ys i) [ inl j ↦ inl j | inr j ↦ inr (g q j) ]))
