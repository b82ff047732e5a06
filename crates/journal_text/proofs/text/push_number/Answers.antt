use Rattle.std.proofs.Common.{arith}
use Rattle.std.proofs.lemmas.Grind.{common_steps}
use Rattle.journal_text.proofs.Numbers.{numeral-decimal}
use Rattle.journal_text.proofs.text.push_number.Goals as goal

pub returns : goal.returns
returns c = let e = numeral-decimal c.args.n c.ranges.n.fits in grind (arith, common_steps)
