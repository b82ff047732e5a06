use Rattle.std.proofs.Common.{◌≡◌, Err, ap, length, subst, sym, ◌∙◌, arith}
use Rattle.std.proofs.lemmas.Bool.{eqb-true, eqb-false}
use Rattle.std.proofs.lemmas.Result.{err_from_is_err_and}
use Rattle.method_pattern.specs.declared.fault.PatternFault.TheVariants as pattern_fault
use Rattle.method_pattern.specs.Texts.{IsWrongAt}
use Rattle.method_pattern.specs.Reading.{IsPartText}
use Rattle.method_pattern.proofs.PartSteps.{part_of, part_wrong, no_part}
use Rattle.method_pattern.proofs.starred.read_part.Goals as goal

pub returns-then-is_empty-clause-fault : goal.returns-then-is_empty-clause-fault
returns-then-is_empty-clause-fault c n e =
    let same : 0 ≡ n = cc in
    let empty = eqb-true (length c.args.text.now) 0 (sym c.is_empty.ensures ∙ c.if-is_empty.true) in
    subst (IsWrongAt IsPartText c.args.text.now) same (no_part c.args.text.now (omega (arith, empty)))

pub returns-in_err-has_letters-clause-fault : goal.returns-in_err-has_letters-clause-fault
returns-in_err-has_letters-clause-fault c n e =
    let p = err_from_is_err_and c.from_residual.result c.from_residual.ensures.1 in
    let is : c.in_err-has_letters.field-0.0 ≡ pattern_fault.At n = cc in
    part_wrong c.args.text.now n (c.in_err-has_letters.ensures.fault n (ap Err is))

pub returns-clause-ok : goal.returns-clause-ok
returns-clause-ok c =
    let some = eqb-false (length c.args.text.now) 0 (sym c.is_empty.ensures ∙ c.if-is_empty.false) in
    part_of c.in_ok-has_letters.field-0 c.args.text.now (omega (arith, some)) c.in_ok-has_letters.ensures.ok
