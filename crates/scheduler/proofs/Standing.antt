-- What stands at a path, and the order of paths, where a file is put or goes.
use Rattle.std.proofs.Common.{◌≡◌, ℕ, Bool, ◌||◌, true, false, cond, List, [], ◌∷◌, refl, sym, ap, subst, ◌∙◌}
use Rattle.std.proofs.Common.{inl, inr}
use Rattle.std.proofs.lemmas.Bool.{both_ways, cases_Bool}
use Rattle.std.proofs.lemmas.Slice.Eq.{bytes_eq-Decides}
use Rattle.std.specs.List.{list_any}
use Rattle.std.specs.Str.{bytes_eq}
use Rattle.std.specs.Ordering.{match_ordering, nat_cmp, ordering_reverse}
use Rattle.std.specs.Cmp.Lexicographic.{slice_cmp, nat_list_cmp_total}
use Rattle.std.specs.FinMap.{slice_cmp-IsAntisymmetric, nat_cmp-IsAntisymmetric}
use Rattle.std.specs.declared.cmp.Ordering.{Ordering}
use Rattle.std.specs.declared.cmp.Ordering.TheVariants.{Less, Equal, Greater}
use Rattle.kept_files.specs.States.{State, IsBelow, has_path, put_file}
use Rattle.kept_files.specs.declared.file.KeptFile.{KeptFile}
use Rattle.scheduler.specs.Untouched.{at_path}

same_path : (p q : List ℕ) → slice_cmp nat_cmp p q ≡ Equal → p ≡ q
same_path p q e = slice_cmp-IsAntisymmetric nat_cmp-IsAntisymmetric p q e

-- ---- at a path

module _ (path : List ℕ) where
  pub elsewhere : (f : KeptFile) (fs : State) → bytes_eq f.path path ≡ false → at_path path (f ∷ fs) ≡ at_path path fs
  elsewhere f fs e = rw e refl

  pub behind : (f : KeptFile) (fs gs : State) → at_path path fs ≡ at_path path gs
      → at_path path (f ∷ fs) ≡ at_path path (f ∷ gs)
  behind f fs gs e = ap (λ xs. cond (bytes_eq f.path path) (f ∷ xs) xs) e

  put_by : (g f : KeptFile) (fs more : State) (r : Ordering) → slice_cmp nat_cmp g.path f.path ≡ r
      → bytes_eq g.path path ≡ false → at_path path more ≡ at_path path fs
      → at_path path (match_ordering r (g ∷ f ∷ fs) (g ∷ fs) (f ∷ more)) ≡ at_path path (f ∷ fs)
  put_by g f fs more Less c e m = elsewhere g (f ∷ fs) e
  put_by g f fs more Equal c e m = elsewhere g fs e
      ∙ sym (elsewhere f fs (ap (λ p. bytes_eq p path) (sym (same_path g.path f.path c)) ∙ e))
  put_by g f fs more Greater c e m = behind f more fs m

  pub put_elsewhere : (g : KeptFile) (fs : State) → bytes_eq g.path path ≡ false
      → at_path path (put_file g fs) ≡ at_path path fs
  unfolding put_file
  put_elsewhere g [] e = elsewhere g [] e
  put_elsewhere g (f ∷ fs) e = put_by g f fs (put_file g fs) (slice_cmp nat_cmp g.path f.path) refl e
      (put_elsewhere g fs e)

  -- ---- whether a file stands there

  abbrev is_some_in : State → Bool
  is_some_in [] = false
  is_some_in (f ∷ fs) = true

  some_in : (fs : State) → has_path fs path ≡ is_some_in (at_path path fs)
  unfolding has_path
  some_in [] = refl
  some_in (f ∷ fs) = elim (bytes_eq f.path path) as
      (λ b. (b || list_any (λ f. bytes_eq f.path path) fs) ≡ is_some_in
      (cond b (f ∷ at_path path fs) (at_path path fs))) [
        | true ↦ refl
        | false ↦ some_in fs
      ]

  pub still_there : (fs gs : State) → at_path path gs ≡ at_path path fs → has_path fs path ≡ true
      → has_path gs path ≡ true
  still_there fs gs e t = some_in gs ∙ (ap is_some_in e ∙ (sym (some_in fs) ∙ t))

  no_file : (fs : State) → is_some_in fs ≡ false → fs ≡ []
  no_file [] e = refl
  no_file (f ∷ fs) e = absurd (cc)

  pub none_there : (fs : State) → has_path fs path ≡ false → at_path path fs ≡ []
  none_there fs e = no_file (at_path path fs) (sym (some_in fs) ∙ e)

  -- a path at which none stands is another than one at which some file stands
  pub other_path : (q : List ℕ) (fs : State) → has_path fs path ≡ true → has_path fs q ≡ false → bytes_eq q path ≡ false
  other_path q fs t f = elim (cases_Bool (bytes_eq q path)) [
    | inl e ↦ absurd (both_ways (has_path fs path) (ap (has_path fs) (sym ((bytes_eq-Decides q path).0 e)) ∙ f) t)
    | inr e ↦ e
  ]

-- ---- the order of paths

-- paths in order, each once
abbrev pub AreInOrder : State → Type 0
AreInOrder [] = Unit {0}
AreInOrder (f ∷ fs) = IsBelow f.path fs × AreInOrder fs

pub below_through : (p q : List ℕ) (fs : State) → slice_cmp nat_cmp p q ≡ Less → IsBelow q fs → IsBelow p fs
below_through p q [] e b = tt
below_through p q (f ∷ fs) e b = (nat_list_cmp_total.trans p q f.path e b.0, below_through p q fs e b.1)

pub below_same : (p q : List ℕ) (fs : State) → p ≡ q → IsBelow q fs → IsBelow p fs
below_same p q fs e b = subst (λ r. IsBelow r fs) (sym e) b

below_by : (p : List ℕ) (g f : KeptFile) (fs more : State) (r : Ordering) → slice_cmp nat_cmp p g.path ≡ Less
    → slice_cmp nat_cmp p f.path ≡ Less → IsBelow p fs → IsBelow p more
    → IsBelow p (match_ordering r (g ∷ f ∷ fs) (g ∷ fs) (f ∷ more))
below_by p g f fs more Less e h b c = (e, (h, b))
below_by p g f fs more Equal e h b c = (e, b)
below_by p g f fs more Greater e h b c = (h, c)

below_put : (p : List ℕ) (g : KeptFile) (fs : State) → slice_cmp nat_cmp p g.path ≡ Less → IsBelow p fs
    → IsBelow p (put_file g fs)
unfolding put_file
below_put p g [] e b = (e, tt)
below_put p g (f ∷ fs) e b = below_by p g f fs (put_file g fs) (slice_cmp nat_cmp g.path f.path) e b.0 b.1
    (below_put p g fs e b.1)

order_by : (g f : KeptFile) (fs more : State) (r : Ordering) → slice_cmp nat_cmp g.path f.path ≡ r → IsBelow f.path fs
    → AreInOrder fs → AreInOrder more
    → (slice_cmp nat_cmp f.path g.path ≡ Less → IsBelow f.path more)
    → AreInOrder (match_ordering r (g ∷ f ∷ fs) (g ∷ fs) (f ∷ more))
order_by g f fs more Less e b k m h = ((e, below_through g.path f.path fs e b), (b, k))
order_by g f fs more Equal e b k m h = (below_same g.path f.path fs (same_path g.path f.path e) b, k)
order_by g f fs more Greater e b k m h = (h (nat_list_cmp_total.antisymm f.path g.path ∙ ap ordering_reverse e), m)

pub order_put : (g : KeptFile) (fs : State) → AreInOrder fs → AreInOrder (put_file g fs)
unfolding put_file
order_put g [] k = (tt, tt)
order_put g (f ∷ fs) k = order_by g f fs (put_file g fs) (slice_cmp nat_cmp g.path f.path) refl k.0 k.1
    (order_put g fs k.1) (λ e. below_put f.path g fs e k.0)
