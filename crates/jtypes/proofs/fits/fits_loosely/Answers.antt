use Rattle.std.proofs.Common.{◌∙◌, sym}
use Rattle.jtypes.proofs.Deciding.{loose_true, loose_all}
use Rattle.jtypes.proofs.fits.fits_loosely.Goals as goal

pub returns : goal.returns
returns g c =
    let w = g.C.Classes.world c.args.c.now in
    let told = c.in_ok-fits.ensures in
    (λ h. loose_true w c.args.a.now c.args.b.now (sym told.gives ∙ h), λ h. told.gives ∙ loose_all w c.args.a.now c.args.b.now h)
