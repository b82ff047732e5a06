-- Tests of equality, and tests over lists.
use Rattle.std.proofs.Common.{◌≡◌, ℕ, List, [], ◌∷◌, refl, sym, ◌∙◌, ap, subst, ◌⊎◌, inl, inr, Bool, true, false, ◌||◌, nat_eq, eqb-true, eq-eqb, if◌then◌else◌}
use Rattle.std.specs.List.{list_any}
use lib.Pointwise.{bytes_decides}
use Rattle.dialogue.specs.Dialogue.{In}
use Rattle.jtypes.specs.World.{name_eq}
use Rattle.jtypes.specs.Primitives.{place, prim_eq}
use Rattle.jtypes.specs.Subtype.{type_eq}
use Rattle.jtypes.specs.declared.types.JPrim.{JPrim}
use Rattle.jtypes.specs.declared.types.JPrim.TheVariants.{Boolean, Byte, Short, Char, Int, Long, Float, Double}
use Rattle.jtypes.specs.Arrays.{ArrayOf}
use Rattle.jtypes.specs.declared.types.JType.{JType}
use Rattle.jtypes.specs.declared.types.JType.TheVariants.{Prim, Class, Null, Void, Unknown}

pub true_false : {P : Type 0} → true ≡ false → P
true_false e = cc

pub same_bool : (r s : Bool) → (r ≡ true → s ≡ true) → (s ≡ true → r ≡ true) → r ≡ s
same_bool true s f g = sym (f refl)
same_bool false true f g = g refl
same_bool false false f g = refl

pub or_true : (r : Bool) → (r || true) ≡ true
or_true true = refl
or_true false = refl

pub or_cases : (r s : Bool) → (r || s) ≡ true → (r ≡ true) ⊎ (s ≡ true)
or_cases true s h = inl refl
or_cases false s h = inr h

pub or_left : (r s : Bool) → r ≡ true → (r || s) ≡ true
or_left r s h = ap (λ x. x || s) h

pub or_right : (r s : Bool) → s ≡ true → (r || s) ≡ true
or_right r s h = ap (λ x. r || x) h ∙ or_true r

abbrev pub Decides : {A : Type 0} → (A → A → Bool) → Type 0
Decides {A} eq = (x y : A) → (eq x y ≡ true → x ≡ y) × (x ≡ y → eq x y ≡ true)

module _ {A : Type 0} (eq : A → A → Bool) (d : Decides eq) where
  pub any_in : (b : A) (xs : List A) → list_any (λ c. eq b c) xs ≡ true → In b xs
  any_in b [] h = true_false (sym h)
  any_in b (x ∷ xs) h = elim (or_cases (eq b x) (list_any (λ c. eq b c) xs) h) [ inl e ↦ inl ((d b x).0 e) | inr k ↦ inr (any_in b xs k) ]

  pub in_any : (b : A) (xs : List A) → In b xs → list_any (λ c. eq b c) xs ≡ true
  in_any b [] h = absurd h
  in_any b (x ∷ xs) (inl e) = or_left (eq b x) (list_any (λ c. eq b c) xs) ((d b x).1 e)
  in_any b (x ∷ xs) (inr i) = or_right (eq b x) (list_any (λ c. eq b c) xs) (in_any b xs i)

pub names_decide : Decides name_eq
names_decide a b = (λ h. (bytes_decides a b).0 h, λ h. (bytes_decides a b).1 h)

pub names_differ : (a b : List ℕ) → (a ≡ b → ⊥) → name_eq a b ≡ false
names_differ a b h = same_bool (name_eq a b) false (λ k. absurd (h ((names_decide a b).0 k))) (λ k. true_false (sym k))

pub differ_names : (a b : List ℕ) → name_eq a b ≡ false → a ≡ b → ⊥
differ_names a b h e = true_false (sym ((names_decide a b).1 e) ∙ h)

at_place : ℕ → JPrim
at_place n =
    if nat_eq n 0 then Boolean
    else if nat_eq n 1 then Byte
    else if nat_eq n 2 then Short
    else if nat_eq n 3 then Char
    else if nat_eq n 4 then Int
    else if nat_eq n 5 then Long
    else if nat_eq n 6 then Float
    else Double

at_place-place : (p : JPrim) → at_place (place p) ≡ p
unfolding at_place
at_place-place Boolean = refl
at_place-place Byte = refl
at_place-place Short = refl
at_place-place Char = refl
at_place-place Int = refl
at_place-place Long = refl
at_place-place Float = refl
at_place-place Double = refl

nat_eq_true : (m n : ℕ) → nat_eq m n ≡ true → m ≡ n
nat_eq_true m n h = eqb-true m n h

nat_eq_same : (n : ℕ) → nat_eq n n ≡ true
nat_eq_same n = eq-eqb n n refl

pub prims_decide : Decides prim_eq
prims_decide p q = (
  λ h. sym (at_place-place p) ∙ ap at_place (nat_eq_true (place p) (place q) h) ∙ at_place-place q,
  λ e. subst (λ r. prim_eq p r ≡ true) e (nat_eq_same (place p)),
)

pub type_eq_true : (a b : JType) → type_eq a b ≡ true → a ≡ b
type_eq_true (Prim p) (Prim q) h = ap Prim ((prims_decide p q).0 h)
type_eq_true (Class a) (Class b) h = ap Class ((names_decide a b).0 h)
type_eq_true (ArrayOf a) (ArrayOf b) h = ap (λ x. ArrayOf x) (type_eq_true a b h)
type_eq_true Null Null h = refl
type_eq_true Void Void h = refl
type_eq_true Unknown Unknown h = refl
type_eq_true a b h = true_false (sym h)

pub type_eq_same : (a : JType) → type_eq a a ≡ true
type_eq_same (Prim p) = (prims_decide p p).1 refl
type_eq_same (Class a) = (names_decide a a).1 refl
type_eq_same (ArrayOf a) = type_eq_same a
type_eq_same Null = refl
type_eq_same Void = refl
type_eq_same Unknown = refl

pub types_decide : Decides type_eq
types_decide a b = (type_eq_true a b, λ e. subst (λ x. type_eq a x ≡ true) e (type_eq_same a))
