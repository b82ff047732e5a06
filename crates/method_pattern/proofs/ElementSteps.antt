-- From an array type to its elements.
use Rattle.std.proofs.Common.{◌≡◌, ℕ, suc, ◌∙◌, Option, None, Some, Bor, ap, sym, subst}
use Rattle.jtypes.specs.Arrays.{ArrayOf, array_is}
use Rattle.jtypes.specs.declared.types.JType.{JType}
use Rattle.jtypes.specs.declared.types.JType.TheViews.{Array}
use Rattle.method_pattern.specs.Matching.{array_of}
use Rattle.method_pattern.specs.Elements.{IsElement}

inner_of : JType → JType
inner_of (ArrayOf inner) = inner
inner_of t = t

inner_same : (a b : JType) → ArrayOf a ≡ ArrayOf b → a ≡ b
unfolding inner_of
inner_same a b e = ap inner_of e

one_deeper : (found : Option (Bor JType)) (t inner : JType) (k : ℕ) → t ≡ ArrayOf inner → IsElement found inner k → IsElement found t (suc k)
one_deeper None t inner k e h = λ other s. h other (inner_same inner (array_of k other) (sym e ∙ s))
one_deeper (Some element) t inner k e h =
    (e ∙ ap (λ (x : JType). ArrayOf x) h.0, λ other s. h.1 other (inner_same inner (array_of k other) (sym e ∙ s)))

pub deeper : (found : Option (Bor JType)) (t inner : JType) (d k : ℕ) → d ≡ suc k → t ≡ Array inner → IsElement found inner k → IsElement found t d
deeper found t inner d k e is h = subst (IsElement found t) (sym e) (one_deeper found t inner k (is ∙ array_is inner) h)
