use Rattle.std.proofs.Common.{◌∙◌, sym}
use Rattle.j_overload.proofs.Applying.{told_wrong_number, told_right_number}
use Rattle.j_overload.proofs.applicable.is_applicable.Goals as goal

pub returns-then-not-takes_number : goal.returns-then-not-takes_number
returns-then-not-takes_number g c = told_wrong_number c.args.phase c.args.args.now c.args.m.now _ c.args.asks.now (sym c.takes_number.ensures ∙ c.if-not-takes_number.true)

pub returns : goal.returns
returns g c = told_right_number c.args.phase c.args.args.now c.args.m.now _ c.args.asks.now _ _ (sym c.takes_number.ensures ∙ c.if-not-takes_number.false) c.in_ok-fit.ensures
