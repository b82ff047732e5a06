use Rattle.std.proofs.Common.{◌∙◌, sym}
use Rattle.jtypes.proofs.Deciding.{strict_true, strict_all}
use Rattle.jtypes.proofs.fits.fits_strictly.Goals as goal

pub returns : goal.returns
returns g c =
    let w = g.C.Classes.world c.args.c.now in
    let told = c.in_ok-fits.ensures in
    (λ h. strict_true w c.args.a.now c.args.b.now (sym told.gives ∙ h), λ h. told.gives ∙ strict_all w c.args.a.now c.args.b.now h)
