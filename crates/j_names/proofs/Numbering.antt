-- Scopes and their numbers.
use Rattle.std.proofs.Common.{◌≡◌, ◌∙◌, sym, ap, subst, refl, ℕ, List, [], ◌∷◌, ◌++◌, ◌-◌, Option, None, Some, Bool}
use Rattle.std.proofs.Common.{true}
use Rattle.std.proofs.Common.{◌⊎◌, ◌≤◌, inl, inr, arith, cond, false, zero, suc, length, take, drop, filter, nat_eq}
use Rattle.std.proofs.Common.{eq-eqb, if◌then◌else◌}
use Rattle.std.proofs.Common.{length-append}
use Rattle.std.proofs.Math.Seq.{take-append_seam}
use Rattle.jtypes.specs.World.{name_eq}
use Rattle.jtypes.proofs.Equality.{names_decide, true_false}
use Rattle.j_names.specs.Indexed.{declared_name, HasNumber, AllNumbered}
use Rattle.j_names.specs.Scopes.{matters}
use Rattle.j_names.specs.declared.context.Frame.{Frame}
use Rattle.j_names.specs.declared.context.Frame.TheVariants.{Class as ClassFrame, Declared, Local as LocalFrame}
use Rattle.j_names.specs.declared.context.Frame.TheVariants.{LocalBody, TypeParam}

abbrev pub Numbers : Type 0
Numbers = List ℕ → Option ℕ

-- what is silent behind a place is silent behind a later one
tail_silent : {X : Type 0} (x : X) (fs : List X) (t : Bool) → (if t then x ∷ fs else fs) ≡ [] → fs ≡ []
tail_silent x fs true h = cc
tail_silent x fs false h = h

pub further_silent : {X : Type 0} (p : X → Bool) (k b : ℕ) (xs : List X) → k ≤ b → filter p (drop k xs) ≡ []
    → filter p (drop b xs) ≡ []
further_silent p zero zero xs le h = h
further_silent p zero (suc b) [] le h = refl
further_silent p zero (suc b) (x ∷ xs) le h =
    further_silent p zero b xs (omega arith) (tail_silent x (filter p xs) (p x) h)
further_silent p (suc k) zero xs le h = absurd (omega (arith, le))
further_silent p (suc k) (suc b) [] le h = refl
further_silent p (suc k) (suc b) (x ∷ xs) le h = further_silent p k b xs (omega (arith, le)) h

pub numbered_length : (f : Numbers) (xs : List Frame) (is : List ℕ) → AllNumbered f xs is → length xs ≡ length is
numbered_length f [] [] a = refl
numbered_length f (x ∷ xs) (i ∷ is) a = ap suc (numbered_length f xs is a.1)
numbered_length f [] (i ∷ is) a = absurd a
numbered_length f (x ∷ xs) [] a = absurd a

pub numbered_more : (f : Numbers) (xs : List Frame) (is : List ℕ) (x : Frame) (i : ℕ) → AllNumbered f xs is
    → HasNumber f (declared_name x) i → AllNumbered f (xs ++ x ∷ []) (is ++ i ∷ [])
numbered_more f [] [] x i a h = (h, tt)
numbered_more f (y ∷ xs) (j ∷ is) x i a h = (a.0, numbered_more f xs is x i a.1 h)
numbered_more f [] (j ∷ is) x i a h = absurd a
numbered_more f (y ∷ xs) [] x i a h = absurd a

pub numbered_take : (f : Numbers) (k : ℕ) (xs : List Frame) (is : List ℕ) → AllNumbered f xs is
    → AllNumbered f (take k xs) (take k is)
numbered_take f zero xs is a = tt
numbered_take f (suc k) [] [] a = tt
numbered_take f (suc k) (x ∷ xs) (i ∷ is) a = (a.0, numbered_take f k xs is a.1)
numbered_take f (suc k) [] (i ∷ is) a = absurd a
numbered_take f (suc k) (x ∷ xs) [] a = absurd a

pub numbered_drop : (f : Numbers) (k : ℕ) (xs : List Frame) (is : List ℕ) → AllNumbered f xs is
    → AllNumbered f (drop k xs) (drop k is)
numbered_drop f zero xs is a = a
numbered_drop f (suc k) [] [] a = tt
numbered_drop f (suc k) (x ∷ xs) (i ∷ is) a = numbered_drop f k xs is a.1
numbered_drop f (suc k) [] (i ∷ is) a = absurd a
numbered_drop f (suc k) (x ∷ xs) [] a = absurd a

-- numbers stay where others come
module _ (f g : Numbers) (keeps : (n : List ℕ) (i : ℕ) → f n ≡ Some i → g n ≡ Some i) where
  one_kept : (o : Option (List ℕ)) (i : ℕ) → HasNumber f o i → HasNumber g o i
  one_kept None i h = h
  one_kept (Some n) i h = keeps n i h

  pub numbered_kept : (xs : List Frame) (is : List ℕ) → AllNumbered f xs is → AllNumbered g xs is
  numbered_kept [] [] a = tt
  numbered_kept (x ∷ xs) (i ∷ is) a = (one_kept (declared_name x) i a.0, numbered_kept xs is a.1)
  numbered_kept [] (i ∷ is) a = absurd a
  numbered_kept (x ∷ xs) [] a = absurd a

-- scopes whose numbers aren't that of a name, nor that of bodies, don't matter to the name
module _ (f : Numbers) (n : List ℕ) where
  its_own : (name : List ℕ) (i : ℕ) → f name ≡ Some i → name_eq name n ≡ true → f n ≡ Some i
  its_own name i h e = subst (λ m. f m ≡ Some i) ((names_decide name n).0 e) h

  number_by : (x : Frame) (i : ℕ) → HasNumber f (declared_name x) i → matters n x ≡ true → (i ≡ 0) ⊎ (f n ≡ Some i)
  number_by (LocalFrame name ty) i h e = inr (its_own name i h e)
  number_by (TypeParam name) i h e = inr (its_own name i h e)
  number_by (ClassFrame name) i h e = inl h
  number_by (LocalBody is_anonymous supertype fields methods) i h e = inl h
  number_by (Declared name) i h e = inr (its_own name i h e)

  abbrev pub NoneIs : ℕ → List ℕ → Type 0
  NoneIs k is = filter (λ i. nat_eq i k) is ≡ []

  first_not : (i : ℕ) (is : List ℕ) → NoneIs i (i ∷ is) → ⊥
  first_not i is h = is_first (nat_eq i i) (eq-eqb i i refl) h
    where
      is_first : (b : Bool) → b ≡ true
          → (if b then i ∷ filter (λ j. nat_eq j i) is else filter (λ j. nat_eq j i) is) ≡ [] → ⊥
      is_first true e h = cc
      is_first false e h = true_false (sym e)

  rest_not : (k i : ℕ) (is : List ℕ) → NoneIs k (i ∷ is) → NoneIs k is
  rest_not k i is h = tail_silent i (filter (λ j. nat_eq j k) is) (nat_eq i k) h

  by_matters : (x : Frame) (fs : List Frame) (b : Bool) → matters n x ≡ b → (matters n x ≡ true → ⊥) → fs ≡ []
      → (if b then x ∷ fs else fs) ≡ []
  by_matters x fs true e h k = absurd (h e)
  by_matters x fs false e h k = k

  pub none_matters : (xs : List Frame) (is : List ℕ) → AllNumbered f xs is → NoneIs 0 is
      → ((k : ℕ) → f n ≡ Some k → NoneIs k is) → filter (matters n) xs ≡ []
  none_matters [] [] a z h = refl
  none_matters (x ∷ xs) (i ∷ is) a z h =
      by_matters x (filter (matters n) xs) (matters n x) refl
      (λ e. elim (number_by x i a.0 e) [
        | inl q ↦ first_not i is (subst (λ k. NoneIs k (i ∷ is)) (sym q) z)
        | inr q ↦ first_not i is (h i q)
      ])
      (none_matters xs is a.1 (rest_not 0 i is z) (λ k q. rest_not k i is (h k q)))
  none_matters [] (i ∷ is) a z h = absurd a
  none_matters (x ∷ xs) [] a z h = absurd a

-- a new name leaves the numbers of the others
kept_by_test : (f : Numbers) (name n : List ℕ) (i v : ℕ) (b : Bool) → name_eq name n ≡ b → f name ≡ None
    → f n ≡ Some i
    → cond b (Some v) (f n) ≡ Some i
kept_by_test f name n i v true e none h = no_some (sym (subst (λ m. f m ≡ None) ((names_decide name n).0 e) none) ∙ h)
  where
    no_some : None ≡ Some i → cond true (Some v) (f n) ≡ Some i
    no_some q = cc
kept_by_test f name n i v false e none h = h

pub kept_by : (f : Numbers) (name n : List ℕ) (i v : ℕ) → f name ≡ None → f n ≡ Some i
    → cond (name_eq name n) (Some v) (f n) ≡ Some i
kept_by f name n i v none h = kept_by_test f name n i v (name_eq name n) refl none h

pub numbered_less : (f : Numbers) (ys : List Frame) (x : Frame) (is : List ℕ) → AllNumbered f (ys ++ x ∷ []) is
    → AllNumbered f ys (take (length is - 1) is)
numbered_less f ys x is a =
    subst (λ zs. AllNumbered f zs (take (length is - 1) is))
    (ap (λ k. take k (ys ++ x ∷ [])) short ∙ take-append_seam ys (x ∷ []))
    (numbered_take f (length is - 1) (ys ++ x ∷ []) is a)
  where
    short : length is - 1 ≡ length ys
    short = omega (arith, numbered_length f (ys ++ x ∷ []) is a, length-append ys (x ∷ []))
