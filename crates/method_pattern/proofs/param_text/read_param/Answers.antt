use Rattle.std.proofs.Common.{◌≡◌, Err, ap, arith}
use Rattle.std.proofs.lemmas.Result.{err_from_is_err_and}
use Rattle.method_pattern.specs.declared.fault.PatternFault.TheVariants as pattern_fault
use Rattle.method_pattern.specs.Reading.{written_as}
use Rattle.method_pattern.proofs.PartSteps.{first_tested, first_other}
use Rattle.method_pattern.proofs.OneType.{rest_wrong, type_wrong, few_dimensions}
use Rattle.method_pattern.proofs.param_text.read_param.Goals as goal

pub returns-in_err-read_word-clause-fault : goal.returns-in_err-read_word-clause-fault
returns-in_err-read_word-clause-fault c n e =
    let p = err_from_is_err_and c.from_residual.result c.from_residual.ensures.1 in
    let is : c.in_err-read_word.field-0.0 ≡ pattern_fault.At n = cc in
    rest_wrong c.args.text.now n (first_tested 46 c.args.text.now c.starts_with.result c.starts_with.ensures.value c.if-starts_with.true)
    (c.in_err-read_word.ensures.fault n (ap Err is))

pub returns-in_err-written-clause-fault : goal.returns-in_err-written-clause-fault
returns-in_err-written-clause-fault c n e =
    let p = err_from_is_err_and c.from_residual-in_err-written.result c.from_residual-in_err-written.ensures.1 in
    let is : c.in_err-written.field-0.0 ≡ pattern_fault.At n = cc in
    type_wrong c.args.text.now n (first_other 46 c.args.text.now c.starts_with.result c.starts_with.ensures.value c.if-starts_with.false)
    (c.in_err-written.ensures.fault n (ap Err is))

pub overflow_add-dimensions : goal.overflow_add-dimensions
overflow_add-dimensions c =
    let few = few_dimensions (written_as c.in_ok-written.written) c.args.text.now c.in_ok-written.ensures.ok in
    omega (arith, few, c.requires)
