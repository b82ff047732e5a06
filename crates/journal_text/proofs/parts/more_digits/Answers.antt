use Rattle.std.proofs.Common.{◌≡◌, length, arith, sym, ap, ◌∙◌, subst, ◌+◌, ◌-◌, ◌^◌, min, get_or}
use Rattle.journal_text.specs.Parts.{Digits}
use Rattle.journal_text.proofs.Numbering.{digits_step, digits_over, digits_all}
use Rattle.journal_text.proofs.parts.more_digits.Goals as goal

pub loop-end-preserved : goal.loop-end-preserved
loop-end-preserved c = digits_step c.args.bytes.now c.args.at c.loop-end.end c.loop-end.value _ (omega arith) (sym c.if-not-is_digit.ensures)
    (c.saturating_add-value.ensures ∙ ap (λ m. min (m + (get_or c.args.bytes.now c.loop-end.end 0 - 48)) (2 ^ 64 - 1)) c.saturating_mul.ensures) c.loop-end.invariant

pub returns : goal.returns
returns c =
    let e : c.loop-end.end ≡ length c.args.bytes.now = omega (arith, c.loop-end.auto.end-end, c.requires.inside) in
    digits_all c.args.bytes.now c.args.at c.loop-end.value (subst (λ n. Digits c.args.bytes.now c.args.at n c.loop-end.value) e c.loop-end.invariant)

pub returns-then-not-is_digit : goal.returns-then-not-is_digit
returns-then-not-is_digit c = digits_over c.args.bytes.now c.args.at c.loop-end.end c.loop-end.value (omega arith) (sym c.if-not-is_digit.ensures) c.loop-end.invariant
