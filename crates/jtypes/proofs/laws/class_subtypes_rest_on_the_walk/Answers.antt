use Rattle.std.proofs.Common.{◌∙◌, sym}
use Rattle.jtypes.specs.declared.types.JType.TheVariants.{Class}
use Rattle.jtypes.proofs.Deciding.{subtype_true, subtype_all}
use Rattle.jtypes.proofs.WalkQuestions.{walk_alike}
use Rattle.jtypes.proofs.laws.class_subtypes_rest_on_the_walk.Goals as goal

pub returns : goal.returns
returns c w v a b h =
    let e = walk_alike w v a b h in
    (λ s. subtype_true v (Class a) (Class b) (e ∙ subtype_all w (Class a) (Class b) s), λ s. subtype_true w (Class a) (Class b) (sym e ∙ subtype_all v (Class a) (Class b) s))
