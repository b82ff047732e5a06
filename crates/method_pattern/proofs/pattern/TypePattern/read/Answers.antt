use Rattle.std.proofs.Common.{◌≡◌, Err, ap}
use Rattle.std.proofs.lemmas.Result.{err_from_is_err_and}
use Rattle.method_pattern.specs.declared.fault.PatternFault.TheVariants as pattern_fault
use Rattle.method_pattern.proofs.PieceSteps.{pattern_wrong}
use Rattle.method_pattern.proofs.pattern.TypePattern.read.Goals as goal

pub returns-in_err-written-clause-fault : goal.returns-in_err-written-clause-fault
returns-in_err-written-clause-fault c n e =
    let p = err_from_is_err_and c.from_residual.result c.from_residual.ensures.1 in
    let is : c.in_err-written.field-0.0 ≡ pattern_fault.At n = cc in
    pattern_wrong c.args.text.now n (c.in_err-written.ensures.fault n (ap Err is))
