use Rattle.j_overload.proofs.FitTests.{told_strict, told_loose, told_function}
use Rattle.j_overload.proofs.applicable.argument_fits.Goals as goal

pub returns-in_ok-fits-in-Strict : goal.returns-in_ok-fits-in-Strict
returns-in_ok-fits-in-Strict g c = rw (c.in-Strict.is, c.in-Known.is) (told_strict _ _ _ _ _ _ c.in_ok-fits-in-Strict.ensures)

pub returns-in_ok-fits-in-Loose : goal.returns-in_ok-fits-in-Loose
returns-in_ok-fits-in-Loose g c = rw c.in-Known.is (told_loose _ _ _ c.args.phase _ _ _ c.in-Loose.is c.in_ok-fits-in-Loose.ensures)

pub returns-in_ok-fits-in-Function : goal.returns-in_ok-fits-in-Function
returns-in_ok-fits-in-Function g c = rw c.in-Function.is (told_function _ _ _ c.args.phase c.args.t.now _ c.in_ok-fits-in-Function.ensures)
