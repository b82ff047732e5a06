use Rattle.std.proofs.Common.{length, sym, ap, ◌∙◌, ◌≡◌, arith}
use Rattle.journal_text.specs.Numerals.{numeral}
use Rattle.journal_text.proofs.Numbers.{numeral-decimal, length-numeral}
use Rattle.journal_text.proofs.length.numeral_len.Goals as goal

pub returns : goal.returns
returns c =
    let e : length c.format.result.now ≡ length (numeral c.args.n) = ap length (c.format.ensures.text ∙ sym (numeral-decimal c.args.n c.ranges.n.fits)) in
    record { value = e; short = omega (arith, (length-numeral c.args.n c.ranges.n.fits).1) }
