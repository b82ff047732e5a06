use Rattle.std.proofs.Common.{◌∙◌, sym}
use Rattle.jtypes.proofs.Equality.{or_left, or_right}
use Rattle.jtypes.proofs.LeftOver.{told_unknown, told_known}
use Rattle.jtypes.proofs.fits.fits_strictly_asking.Goals as goal

pub returns-then-is_unknown : goal.returns-then-is_unknown
returns-then-is_unknown g c = told_unknown c.args.a.now c.args.b.now _ c.args.asks.now (or_left _ _ (sym c.is_unknown.ensures ∙ c.if-is_unknown.true))

pub returns-then-is_unknown-2 : goal.returns-then-is_unknown-2
returns-then-is_unknown-2 g c = told_unknown c.args.a.now c.args.b.now _ c.args.asks.now (or_right _ _ (sym c.is_unknown-2.ensures ∙ c.if-is_unknown-2.true))

pub returns : goal.returns
returns g c = told_known c.args.a.now c.args.b.now _ c.args.asks.now _ _ (sym c.is_unknown.ensures ∙ c.if-is_unknown.false) (sym c.is_unknown-2.ensures ∙ c.if-is_unknown-2.false) c.in_ok-fits.ensures
