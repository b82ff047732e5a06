use Rattle.jtypes.specs.Fits.{strictly}
use Rattle.jtypes.proofs.laws.strict_fits_are_loose.Goals as goal

pub returns : goal.returns
returns c w a b h = strictly a b h
