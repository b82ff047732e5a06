use Rattle.jtypes.specs.Fits.{loose_fit}
use Rattle.jtypes.proofs.LeftOver.{told_prim_loose, told_class_loose, told_other_loose, told_unboxed}
use Rattle.jtypes.proofs.fits.fits_loosely_asking.Goals as goal

pub returns-in_ok-fits-in-Class-b : goal.returns-in_ok-fits-in-Class-b
unfolding loose_fit
returns-in_ok-fits-in-Class-b g c = rw (c.in-Prim.is, c.in-Class-b.is) c.in_ok-fits-in-Class-b.ensures

pub returns-in_ok-fits-in_default-b : goal.returns-in_ok-fits-in_default-b
returns-in_ok-fits-in_default-b g c =
    let told = rw c.in-Prim.is at c.in_ok-fits-in_default-b.ensures in
    rw c.in-Prim.is (told_prim_loose c.in-Prim.p c.args.b.now _ _ _ _ c.in_default-b.not-Class told)

pub returns-in-Prim-b : goal.returns-in-Prim-b
returns-in-Prim-b g c =
    let fit = rw c.in-Class.is at c.fits_unboxed.ensures in
    rw (c.in-Class.is, c.in-Prim-b.is) (told_unboxed c.in-Class.field-0 c.in-Prim-b.q _ _ _ fit)

pub returns-in_ok-fits-in_default-b-2 : goal.returns-in_ok-fits-in_default-b-2
returns-in_ok-fits-in_default-b-2 g c =
    let told = rw c.in-Class.is at c.in_ok-fits-in_default-b-2.ensures in
    rw c.in-Class.is (told_class_loose c.in-Class.field-0 c.args.b.now _ _ _ _ c.in_default-b-2.not-Prim told)

pub returns-in_ok-fits-in_default : goal.returns-in_ok-fits-in_default
returns-in_ok-fits-in_default g c = told_other_loose c.args.a.now c.args.b.now _ _ _ _ c.in_default.not-Prim c.in_default.not-Class c.in_ok-fits-in_default.ensures
