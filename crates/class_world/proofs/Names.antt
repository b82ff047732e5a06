-- Tests of names.
use Rattle.std.proofs.Common.{◌≡◌, ◌∙◌, ℕ, List, Bool, true, false, refl, sym, ap}
use lib.Pointwise.{bytes_decides}
use Rattle.jtypes.specs.World.{name_eq}

pub true_false : {P : Type 0} → true ≡ false → P
true_false e = cc

pub same_names : (a b : List ℕ) → name_eq a b ≡ true → a ≡ b
same_names a b e = (bytes_decides a b).0 e

pub name_same : (a : List ℕ) → name_eq a a ≡ true
name_same a = (bytes_decides a a).1 refl

pub same_bool : (r s : Bool) → (r ≡ true → s ≡ true) → (s ≡ true → r ≡ true) → r ≡ s
same_bool true s f g = sym (f refl)
same_bool false true f g = g refl
same_bool false false f g = refl

-- which name is the first doesn't matter
pub name_eq-swap : (a b : List ℕ) → name_eq a b ≡ name_eq b a
name_eq-swap a b = same_bool (name_eq a b) (name_eq b a)
    (λ e. (bytes_decides b a).1 (sym (same_names a b e))) (λ e. (bytes_decides a b).1 (sym (same_names b a e)))
