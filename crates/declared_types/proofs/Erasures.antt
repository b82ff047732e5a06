-- The erasure of a type variable, bound by bound.
use Rattle.std.proofs.Common.{◌≡◌, ◌∙◌, sym, ap, subst, ℕ, List, [], ◌∷◌, zero, suc, ◌-◌, ◌<◌, drop, length, get_or}
use Rattle.std.proofs.Common.{arith}
use Rattle.std.proofs.Math.Seq.{drop-cons}
use Rattle.dialogue.specs.Told.{Told}
use Rattle.dialogue.specs.ToldLaws.{told_bind, told_done}
use Rattle.jtypes.specs.World.{World}
use Rattle.jtypes.specs.declared.ask.Ask.{Ask}
use Rattle.jtypes.specs.declared.symbol.Symbol.{Symbol}
use Rattle.jtypes.specs.declared.types.JType.{JType}
use Rattle.jtypes.specs.declared.types.JType.TheVariants.{Class as ClassType}
use Rattle.jtypes.specs.Subtype.{object_name}
use Rattle.declared_types.specs.declared.body.Scope.{Scope}
use Rattle.declared_types.specs.Erasure.{param_in, from_scope, bound_of, bound_meaning, as_erased, erased, erasure_in}
use Rattle.declared_types.specs.Erasure.{erasure, count_params, variable_erased}

suc_of : (n : ℕ) → 0 < n → n ≡ suc (n - 1)
suc_of zero h = absurd (omega (arith, h))
suc_of (suc n) h = ap suc (omega arith)

module _ (w : World) (old : List Ask) where
  -- a circle of bounds
  pub bounds_run_out : (left : ℕ) (ss : List Scope) (name : List ℕ) → left ≡ 0
      → Told (erasure left ss name) w old old (ClassType object_name)
  unfolding erasure
  bounds_run_out left ss name e = rw e (told_done w old (ClassType object_name))

  -- the scopes from the first on that has the variable
  module _ (left : ℕ) (more : 0 < left) (ss inner : List Scope) (name : List ℕ) (found : inner ≡ from_scope name ss)
    where
      inside : (new : List Ask) (t : JType) → Told (erasure_in (erasure (left - 1)) name inner) w old new t
          → Told (erasure left ss name) w old new t
      unfolding erasure
      inside new t h =
          rw (suc_of left more) (subst (λ xs. Told (erasure_in (erasure (left - 1)) name xs) w old new t) found h)

      pub no_scope : inner ≡ [] → Told (erasure left ss name) w old old (ClassType object_name)
      no_scope e = inside old (ClassType object_name) (rw e (told_done w old (ClassType object_name)))

      -- a scope that has it, and what its bound means there
      pub by_bound : (s : Scope) (rest : List Scope) → inner ≡ s ∷ rest → (mid : List Ask) (m : Symbol)
          → Told (bound_meaning s (bound_of (param_in name s))) w old mid m → (new : List Ask) (t : JType)
          → Told (erased (erasure (left - 1) inner) (as_erased m)) w mid new t → Told (erasure left ss name) w old new t
      by_bound s rest e mid m h new t k =
          inside new t (rw e (told_bind (bound_meaning s (bound_of (param_in name s)))
          (λ x. erased (erasure (left - 1) (s ∷ rest)) (as_erased x)) w old mid new m t h
          (subst (λ xs. Told (erased (erasure (left - 1) xs) (as_erased m)) w mid new t) e k)))

-- a list from a place on
pub cut : {A : Type 0} (xs : List A) (at : ℕ) (x : A) → at < length xs → x ≡ get_or xs at x
    → drop at xs ≡ x ∷ drop (suc at) xs
cut xs at x lt is = drop-cons xs at x lt ∙ ap (λ y. y ∷ drop (suc at) xs) (sym is)

-- it begins with as many bounds as there are type parameters
pub bounds_begin : (w : World) (old new : List Ask) (ss : List Scope) (name variable : List ℕ) (left : ℕ) (t : JType)
    → left ≡ count_params ss → variable ≡ name → Told (erasure left ss variable) w old new t
    → Told (variable_erased ss name) w old new t
unfolding variable_erased
bounds_begin w old new ss name variable left t e is h =
    subst (λ n. Told (erasure n ss name) w old new t) e (subst (λ v. Told (erasure left ss v) w old new t) is h)
