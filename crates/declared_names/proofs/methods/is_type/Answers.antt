use Rattle.std.proofs.Common.{◌≡◌, true, subst}
use Rattle.jtypes.proofs.Equality.{same_bool, type_eq_true, type_eq_same}
use Rattle.jtypes.specs.Subtype.{type_eq}
use Rattle.declared_names.proofs.methods.is_type.Goals as goal

pub returns : goal.returns
returns c =
    let t = c.args.ty.now in
    let u = c.args.other.now in
    same_bool c.is.result (type_eq t u)
    (λ h. subst (λ x. type_eq t x ≡ true) (c.is.ensures.0 h) (type_eq_same t))
    (λ h. c.is.ensures.1 (type_eq_true t u h))
