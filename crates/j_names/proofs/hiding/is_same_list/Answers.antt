use Rattle.std.proofs.Common.{◌≡◌, ◌∙◌, sym, ap, subst, refl, List, [], ◌∷◌, ◌&&◌, Bool, true, false}
use Rattle.jtypes.proofs.Equality.{same_bool, true_false, type_eq_true, type_eq_same}
use Rattle.jtypes.specs.Subtype.{type_eq}
use Rattle.jtypes.specs.declared.types.JType.{JType}
use Rattle.j_names.specs.Calls.{types_eq}
use Rattle.j_names.proofs.hiding.is_same_list.Goals as goal

and_left : (a b : Bool) → (a && b) ≡ true → a ≡ true
and_left true b h = refl
and_left false b h = h

and_right : (a b : Bool) → (a && b) ≡ true → b ≡ true
and_right true b h = h
and_right false b h = true_false (sym h)

both : (a : JType) (ts : List JType) (b : JType) (us : List JType) → a ≡ b → ts ≡ us → a ∷ ts ≡ b ∷ us
both a ts b us e f = subst (λ x. a ∷ ts ≡ x ∷ us) e (ap (λ xs. a ∷ xs) f)

types_eq_true : (ts us : List JType) → types_eq ts us ≡ true → ts ≡ us
types_eq_true [] [] h = refl
types_eq_true (a ∷ ts) (b ∷ us) h =
    both a ts b us (type_eq_true a b (and_left (type_eq a b) (types_eq ts us) h))
    (types_eq_true ts us (and_right (type_eq a b) (types_eq ts us) h))
types_eq_true [] (b ∷ us) h = true_false (sym h)
types_eq_true (a ∷ ts) [] h = true_false (sym h)

types_eq_same : (ts : List JType) → types_eq ts ts ≡ true
types_eq_same [] = refl
types_eq_same (a ∷ ts) = ap (λ b. b && types_eq ts ts) (type_eq_same a) ∙ types_eq_same ts

pub returns : goal.returns
returns c =
    let ts = c.args.types.now in
    let us = c.args.others.now in
    same_bool c.are_same_types.result (types_eq ts us)
    (λ h. subst (λ xs. types_eq ts xs ≡ true) (c.are_same_types.ensures.0 h) (types_eq_same ts))
    (λ h. c.are_same_types.ensures.1 (types_eq_true ts us h))
