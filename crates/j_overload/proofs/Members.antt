-- Members of filtered lists, and of numbered ones.
use Rattle.std.proofs.Common.{◌≡◌, ◌∙◌, sym, ap, subst, refl, ℕ, zero, suc, ◌+◌, ◌≤◌, List, [], ◌∷◌, filter, Bool, true, false, ◌&&◌, Some, None, slice_get, arith, if◌then◌else◌, inl, inr}
use Rattle.std.specs.List.{list_all, enumerate_from}
use Rattle.dialogue.specs.Dialogue.{In}
use Rattle.jtypes.proofs.Equality.{true_false}
use Rattle.jtypes.specs.declared.signatures.MethodSig.{MethodSig}
use Rattle.j_overload.proofs.Fitting.{and_both, both_and}

module _ {A : Type 0} (p : A → Bool) where
  pub of_filter : (x : A) (ys : List A) → In x (filter p ys) → In x ys × (p x ≡ true)
  of_filter x [] h = absurd h
  of_filter x (y ∷ ys) h = by_test (p y) refl (of_filter x ys) h
    where
      by_test : (b : Bool) → p y ≡ b → (In x (filter p ys) → In x ys × (p x ≡ true)) → In x (if b then y ∷ filter p ys else filter p ys) → In x (y ∷ ys) × (p x ≡ true)
      by_test true e f (inl k) = (inl k, ap p k ∙ e)
      by_test true e f (inr k) = let r = f k in (inr r.0, r.1)
      by_test false e f k = let r = f k in (inr r.0, r.1)

  pub to_filter : (x : A) (ys : List A) → In x ys → p x ≡ true → In x (filter p ys)
  to_filter x [] h t = absurd h
  to_filter x (y ∷ ys) (inl k) t = subst (λ b. In x (if b then y ∷ filter p ys else filter p ys)) (sym (ap p (sym k) ∙ t)) (inl k)
  to_filter x (y ∷ ys) (inr k) t = by_test (p y) (to_filter x ys k t)
    where
      by_test : (b : Bool) → In x (filter p ys) → In x (if b then y ∷ filter p ys else filter p ys)
      by_test true i = inr i
      by_test false i = i

  pub all_in : (x : A) (ys : List A) → list_all p ys ≡ true → In x ys → p x ≡ true
  all_in x [] h i = absurd i
  all_in x (y ∷ ys) h (inl k) = ap p k ∙ (and_both (p y) (list_all p ys) h).0
  all_in x (y ∷ ys) h (inr k) = all_in x ys ((and_both (p y) (list_all p ys) h).1) k

  pub in_all : (ys : List A) → ((x : A) → In x ys → p x ≡ true) → list_all p ys ≡ true
  in_all [] f = refl
  in_all (y ∷ ys) f = both_and (p y) (list_all p ys) (f y (inl refl)) (in_all ys (λ x i. f x (inr i)))

  pub one_fails : (ys : List A) → list_all p ys ≡ false → (x : A) × (In x ys × (p x ≡ false))
  one_fails [] h = true_false h
  one_fails (y ∷ ys) h = by_test (p y) refl (one_fails ys) h
    where
      by_test : (b : Bool) → p y ≡ b → (list_all p ys ≡ false → (x : A) × (In x ys × (p x ≡ false))) → (b && list_all p ys) ≡ false → (x : A) × (In x (y ∷ ys) × (p x ≡ false))
      by_test true e f k = let r = f k in (r.0, (inr r.1.0, r.1.1))
      by_test false e f k = (y, (inl refl, e))

pub of_numbered : (cs : List MethodSig) (n i : ℕ) (m : MethodSig) → In (i, m) (enumerate_from n cs) → (j : ℕ) × ((i ≡ n + j) × (slice_get cs j ≡ Some m))
of_numbered [] n i m h = absurd h
of_numbered (c ∷ cs) n i m (inl e) = let f : i ≡ n = ap (λ x. x.0) e in let g : m ≡ c = ap (λ x. x.1) e in (0, (omega arith, ap Some (sym g)))
of_numbered (c ∷ cs) n i m (inr k) = let r = of_numbered cs (n + 1) i m k in let e : i ≡ n + 1 + r.0 = r.1.0 in (suc r.0, (omega arith, r.1.1))

pub to_numbered : (cs : List MethodSig) (n j : ℕ) (m : MethodSig) → slice_get cs j ≡ Some m → In (n + j, m) (enumerate_from n cs)
to_numbered [] n j m e = absurd (let h : None ≡ Some m = e in cc)
to_numbered (c ∷ cs) n zero m e = let f : m ≡ c = cc in let g : n + 0 ≡ n = omega arith in inl (λ i. (g i, f i))
to_numbered (c ∷ cs) n (suc j) m e = inr (subst (λ k. In (k, m) (enumerate_from (n + 1) cs)) (omega arith) (to_numbered cs (n + 1) j m e))

-- each position is at most those after it
abbrev pub Ordered : List (ℕ × MethodSig) → Type 0
Ordered [] = Unit {0}
Ordered (c ∷ cs) = ((d : ℕ × MethodSig) → In d cs → c.0 ≤ d.0) × Ordered cs

pub ordered_numbers : (cs : List MethodSig) (n : ℕ) → Ordered (enumerate_from n cs)
ordered_numbers [] n = tt
ordered_numbers (c ∷ cs) n = (λ d h. let r = of_numbered cs (n + 1) d.0 d.1 h in let e : d.0 ≡ n + 1 + r.0 = r.1.0 in omega arith, ordered_numbers cs (n + 1))

pub ordered_filter : (p : ℕ × MethodSig → Bool) (cs : List (ℕ × MethodSig)) → Ordered cs → Ordered (filter p cs)
ordered_filter p [] h = tt
ordered_filter p (c ∷ cs) h = by_test (p c) (ordered_filter p cs h.1)
  where
    by_test : (b : Bool) → Ordered (filter p cs) → Ordered (if b then c ∷ filter p cs else filter p cs)
    by_test true o = (λ d i. h.0 d ((of_filter p d cs i).0), o)
    by_test false o = o
