-- The first of each name, after one more of the list.
use Rattle.std.proofs.Common.{◌≡◌, ◌∙◌, refl, sym, ap, subst, ℕ, List, [], ◌∷◌, ◌++◌, Bool, true, false, Option, None, Some, is_some}
use Rattle.std.proofs.Common.{if◌then◌else◌, cond, filter, append-nil}
use Rattle.std.proofs.lemmas.List.Elements.{filter-append}
use Rattle.jtypes.specs.World.{name_eq, first}
use Rattle.class_world.proofs.Names.{true_false, same_names}

pub first-front : {A : Type 0} (xs ys : List A) → first xs ≡ None → first (xs ++ ys) ≡ first ys
first-front [] ys e = refl
first-front (x ∷ xs) ys e = absurd (let h : Some x ≡ None = e in cc)

pub first-nil : {A : Type 0} (xs ys : List A) → ys ≡ [] → first (xs ++ ys) ≡ first xs
first-nil xs ys e = ap (λ zs. first (xs ++ zs)) e ∙ ap first (append-nil xs)

first-there : {A : Type 0} (xs ys : List A) → is_some (first xs) ≡ true → first (xs ++ ys) ≡ first xs
first-there [] ys e = true_false (sym e)
first-there (x ∷ xs) ys e = refl

not_some : {A : Type 0} (o : Option A) → is_some o ≡ false → o ≡ None
not_some None e = refl
not_some (Some a) e = true_false e

module _ {A : Type 0} (name : A → List ℕ) (xs : List A) (x : A) (before : List ℕ → Option A)
    (holds : (n : List ℕ) → before n ≡ first (filter (λ y. name_eq (name y) n) xs)) where
  of : List ℕ → List A → List A
  of n ys = filter (λ y. name_eq (name y) n) ys

  split : (n : List ℕ) → first (of n (xs ++ x ∷ [])) ≡ first (of n xs ++ of n (x ∷ []))
  unfolding of
  split n = ap first (filter-append (λ y. name_eq (name y) n) xs (x ∷ []))

  passed : (n : List ℕ) → name_eq (name x) n ≡ false → first (of n (xs ++ x ∷ [])) ≡ first (of n xs)
  unfolding of
  passed n e = split n ∙ first-nil (of n xs) (of n (x ∷ [])) (ap (λ b. if b then x ∷ [] else []) e)

  pub first_put : is_some (before (name x)) ≡ false → (n : List ℕ)
      → cond (name_eq (name x) n) (Some x) (before n) ≡ first (filter (λ y. name_eq (name y) n) (xs ++ x ∷ []))
  unfolding of
  first_put absent n = by_test (name_eq (name x) n) refl
    where
      by_test : (b : Bool) → name_eq (name x) n ≡ b
          → cond b (Some x) (before n) ≡ first (filter (λ y. name_eq (name y) n) (xs ++ x ∷ []))
      by_test true e =
          let none : first (of n xs) ≡ None =
          sym (holds n) ∙ not_some (before n) (subst (λ m. is_some (before m) ≡ false) (same_names (name x) n e) absent) in
          sym (split n ∙ first-front (of n xs) (of n (x ∷ [])) none ∙ ap (λ b. first (if b then x ∷ [] else [])) e)
      by_test false e = holds n ∙ sym (passed n e)

  pub first_kept : is_some (before (name x)) ≡ true → (n : List ℕ)
      → before n ≡ first (filter (λ y. name_eq (name y) n) (xs ++ x ∷ []))
  unfolding of
  first_kept there n = by_test (name_eq (name x) n) refl
    where
      by_test : (b : Bool) → name_eq (name x) n ≡ b
          → before n ≡ first (filter (λ y. name_eq (name y) n) (xs ++ x ∷ []))
      by_test true e =
          let some : is_some (first (of n xs)) ≡ true =
          ap is_some (sym (holds n)) ∙ subst (λ m. is_some (before m) ≡ true) (same_names (name x) n e) there in
          holds n ∙ sym (split n ∙ first-there (of n xs) (of n (x ∷ [])) some)
      by_test false e = holds n ∙ sym (passed n e)
