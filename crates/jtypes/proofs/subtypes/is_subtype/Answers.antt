use Rattle.std.proofs.Common.{◌∙◌, sym}
use Rattle.jtypes.proofs.Deciding.{subtype_true, subtype_all}
use Rattle.jtypes.proofs.subtypes.is_subtype.Goals as goal

pub returns : goal.returns
returns g c =
    let w = g.C.Classes.world c.args.c.now in
    let told = c.in_ok-holds.ensures in
    (λ h. subtype_true w c.args.a.now c.args.b.now (sym told.gives ∙ h), λ h. told.gives ∙ subtype_all w c.args.a.now c.args.b.now h)
