use Rattle.std.proofs.Common.{◌≡◌, ℕ, ◌<◌, ◌≤◌, List, [], ◌∷◌, ◌++◌, refl, sym, ◌∙◌, ap, subst, Some, None, slice_get, ◌⊎◌, inl, inr, zero, suc, arith, length, append-nil, append_assoc, length-append}
use Rattle.dialogue.specs.Dialogue.{In}
use Rattle.dialogue.specs.DialogueLaws.{In-append, In-left, In-right}
use Rattle.jtypes.specs.World.{World}
use Rattle.jtypes.specs.Subtype.{Reaches, supertypes}
use Rattle.jtypes.specs.Grown.{Grown, Expanded, IsOnce}

-- the classes seen after so many levels; those before a place have their supertypes among them
pub record Level (w : World) (n : ℕ) (a : List ℕ) (from : ℕ) (seen : List (List ℕ)) : Type 0 where
  pub within : from ≤ length seen
  pub sound : (b : List ℕ) → In b seen → Reaches w n a b
  pub all : (b : List ℕ) → Reaches w n a b → In b seen
  pub closed : (i : ℕ) (m b : List ℕ) → i < from → slice_get seen i ≡ Some m → In b (supertypes w m) → In b seen
  pub once : IsOnce seen

-- one more at the end of a row of supertypes
pub further : (w : World) (n : ℕ) (a m b : List ℕ) → Reaches w n a m → In b (supertypes w m) → Reaches w (suc n) a b
further w zero a m b e h = inr (b, rw e h, refl)
further w (suc n) a m b (inl e) h = inr (b, rw e h, inl refl)
further w (suc n) a m b (inr p) h = inr (p.0, p.1, further w n p.0 m b p.2 h)

pub longer : (w : World) (n : ℕ) (a b : List ℕ) → Reaches w n a b → Reaches w (suc n) a b
longer w zero a b e = inl e
longer w (suc n) a b (inl e) = inl e
longer w (suc n) a b (inr p) = inr (p.0, p.1, longer w n p.0 b p.2)

-- the last of a row of supertypes
pub last : (w : World) (n : ℕ) (a b : List ℕ) → Reaches w (suc n) a b → Reaches w n a b ⊎ ((m : List ℕ) × Reaches w n a m × In b (supertypes w m))
last w zero a b (inl e) = inl e
last w zero a b (inr p) = inr (a, refl, rw (sym p.2) p.1)
last w (suc n) a b (inl e) = inl (inl e)
last w (suc n) a b (inr p) = elim (last w n p.0 b p.2) [ inl r ↦ inl (inr (p.0, p.1, r)) | inr q ↦ inr (q.0, inr (p.0, p.1, q.1), q.2) ]

pub lt_or_le : (i j : ℕ) → (i < j) ⊎ (j ≤ i)
lt_or_le zero zero = inr (omega arith)
lt_or_le zero (suc j) = inl (omega arith)
lt_or_le (suc i) zero = inr (omega arith)
lt_or_le (suc i) (suc j) = elim (lt_or_le i j) [ inl h ↦ inl (omega (arith, h)) | inr h ↦ inr (omega (arith, h)) ]

-- where an element stands
pub place : (x : List ℕ) (xs : List (List ℕ)) → In x xs → (i : ℕ) × (i < length xs) × (slice_get xs i ≡ Some x)
place x [] h = elim h [ ]
place x (y ∷ ys) (inl e) = (zero, omega arith, ap Some (sym e))
place x (y ∷ ys) (inr h) = let p = place x ys h in (suc p.0, omega (arith, p.1), p.2)

pub get_front : (xs ys : List (List ℕ)) (i : ℕ) → i < length xs → slice_get (xs ++ ys) i ≡ slice_get xs i
get_front [] ys i h = absurd (omega arith)
get_front (x ∷ xs) ys zero h = refl
get_front (x ∷ xs) ys (suc i) h = get_front xs ys i (omega arith)

pub level_more : (w : World) (n : ℕ) (a : List ℕ) (from : ℕ) (seen new : List (List ℕ)) → Level w n a from seen → Expanded w from (length seen) seen new → Level w (suc n) a (length seen) new
level_more w n a from seen new l e = record {
  within = rw (ap length e.grown, length-append) (omega arith);
  sound = λ b h. elim (In-append b seen e.extra (subst (In b) e.grown h)) [ inl i ↦ longer w n a b (l.sound b i) | inr j ↦ let p = e.only b j in further w n a p.0 b (l.sound p.0 p.1) p.2 ];
  all = λ b r. elim (last w n a b r) [ inl q ↦ kept b (l.all b q) | inr p ↦ let i = place p.0 seen (l.all p.0 p.1) in here i.0 p.0 b i.1 i.2 p.2 ];
  closed = λ i m b lt is h. here i m b lt (sym (get_front seen e.extra i lt) ∙ ap (λ s. slice_get s i) (sym e.grown) ∙ is) h;
  once = e.once l.once;
}
  where
    kept : (b : List ℕ) → In b seen → In b new
    kept b h = subst (In b) (sym e.grown) (In-left b seen e.extra h)

    here : (i : ℕ) (m b : List ℕ) → i < length seen → slice_get seen i ≡ Some m → In b (supertypes w m) → In b new
    here i m b lt is h = elim (lt_or_le i from) [ inl k ↦ kept b (l.closed i m b k is h) | inr k ↦ e.each i m b k lt is h ]

pub at_place : (x : List ℕ) (xs : List (List ℕ)) (i : ℕ) → slice_get xs i ≡ Some x → In x xs
at_place x [] i e = let n : None ≡ Some x = e in cc
at_place x (y ∷ ys) zero e = let s : Some y ≡ Some x = e in inl (cc)
at_place x (y ∷ ys) (suc i) e = inr (at_place x ys i e)

pub grown_none : (old : List (List ℕ)) → Grown [] old old
grown_none old = record { extra = []; grown = sym (append-nil old); only = λ b h. h; each = λ b h. elim h [ ]; once = λ h. h }

pub grown_kept : (names old seen : List (List ℕ)) (x : List ℕ) → Grown names old seen → In x seen → Grown (names ++ x ∷ []) old seen
grown_kept names old seen x g i = record {
  extra = g.extra;
  grown = g.grown;
  only = λ b h. In-left b names (x ∷ []) (g.only b h);
  each = λ b h. elim (In-append b names (x ∷ []) h) [ inl k ↦ g.each b k | inr k ↦ elim k [ inl e ↦ subst (λ y. In y seen) (sym e) i | inr f ↦ absurd f ] ];
  once = g.once;
}

once_put : (xs : List (List ℕ)) (x : List ℕ) → (In x xs → ⊥) → IsOnce xs → IsOnce (xs ++ x ∷ [])
once_put [] x n h = (λ f. absurd f, tt)
once_put (y ∷ ys) x n h = (
  λ i. elim (In-append y ys (x ∷ []) i) [ inl j ↦ h.0 j | inr j ↦ elim j [ inl e ↦ n (inl (sym e)) | inr f ↦ absurd f ] ],
  once_put ys x (λ i. n (inr i)) h.1,
)

pub grown_put : (names old seen : List (List ℕ)) (x : List ℕ) → (In x seen → ⊥) → Grown names old seen → Grown (names ++ x ∷ []) old (seen ++ x ∷ [])
grown_put names old seen x n g = record {
  extra = g.extra ++ x ∷ [];
  grown = ap (λ s. s ++ x ∷ []) g.grown ∙ append_assoc old g.extra (x ∷ []);
  only = λ b h. elim (In-append b g.extra (x ∷ []) h) [ inl k ↦ In-left b names (x ∷ []) (g.only b k) | inr k ↦ In-right b names (x ∷ []) k ];
  each = λ b h. elim (In-append b names (x ∷ []) h) [ inl k ↦ In-left b seen (x ∷ []) (g.each b k) | inr k ↦ In-right b seen (x ∷ []) k ];
  once = λ h. once_put seen x n (g.once h);
}

pub expanded_none : (w : World) (from : ℕ) (old : List (List ℕ)) → Expanded w from from old old
expanded_none w from old = record { extra = []; grown = sym (append-nil old); only = λ b h. elim h [ ]; each = λ i a b h k. absurd (omega (arith, h, k)); once = λ h. h }

pub expanded_more : (w : World) (from i : ℕ) (old seen new : List (List ℕ)) (a : List ℕ) → Expanded w from i old seen → slice_get old i ≡ Some a → Grown (supertypes w a) seen new → Expanded w from (suc i) old new
expanded_more w from i old seen new a e is g = record {
  extra = e.extra ++ g.extra;
  grown = g.grown ∙ ap (λ s. s ++ g.extra) e.grown ∙ append_assoc old e.extra g.extra;
  only = λ b h. elim (In-append b e.extra g.extra h) [ inl k ↦ e.only b k | inr k ↦ (a, at_place a old i is, g.only b k) ];
  each = λ j m b lo hi at h. elim (lt_or_le j i) [
    | inl k ↦ subst (In b) (sym g.grown) (In-left b seen g.extra (e.each j m b lo k at h))
    | inr k ↦
        let q : i ≡ j = omega (arith, k, hi) in
        let s : Some a ≡ Some m = sym is ∙ ap (slice_get old) q ∙ at in
        let t : m ≡ a = cc in
        g.each b (subst (λ x. In b (supertypes w x)) t h)
  ];
  once = λ h. g.once (e.once h);
}
