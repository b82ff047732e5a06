use Rattle.std.proofs.Common.{◌≡◌, ◌+◌, Err, length, take, sym, ap, subst, ◌∙◌, arith}
use Rattle.std.proofs.lemmas.List.{take_all}
use Rattle.std.proofs.lemmas.Result.{err_from_is_err_and}
use Rattle.method_pattern.specs.declared.fault.PatternFault.TheVariants as pattern_fault
use Rattle.method_pattern.specs.Texts.{IsWrongAt}
use Rattle.method_pattern.specs.Reading.{IsParamList, IsClosed}
use Rattle.method_pattern.proofs.MethodSteps.{closed_left, closed_missing, closed_behind, closed_read}
use Rattle.method_pattern.proofs.reading.read_closed.Goals as goal

pub returns-in_err-params-clause-fault : goal.returns-in_err-params-clause-fault
returns-in_err-params-clause-fault c n e =
    let p = err_from_is_err_and c.from_residual.result c.from_residual.ensures.1 in
    let is : c.in_err-params.field-0.0 ≡ pattern_fault.At n = cc in
    closed_left c.args.text.now c.run_size-end.result n c.run_size-end.ensures (c.in_err-params.ensures.fault n (ap Err is))

pub returns-then-end-text-clause-fault : goal.returns-then-end-text-clause-fault
returns-then-end-text-clause-fault c n e =
    let text = c.args.text.now in
    let same : length text ≡ n = sym c.if-end-text.true ∙ (let size : c.run_size-end.result ≡ n = cc in size) in
    let whole : take c.run_size-end.result text ≡ text = take_all c.run_size-end.result text (omega (arith, c.if-end-text.true)) in
    subst (IsWrongAt IsClosed text) same
    (closed_missing c.in_ok-params.params.items text (subst (IsParamList c.in_ok-params.params.items) whole c.in_ok-params.ensures.ok))

pub returns-then-end-text-2-clause-fault : goal.returns-then-end-text-2-clause-fault
returns-then-end-text-2-clause-fault c n e =
    let same : c.run_size-end.result + 1 ≡ n = cc in
    subst (IsWrongAt IsClosed c.args.text.now) same
    (closed_behind c.in_ok-params.params.items c.args.text.now c.run_size-end.result c.run_size-end.ensures c.if-end-text-2.true
    c.in_ok-params.ensures.ok)

pub returns-clause-ok : goal.returns-clause-ok
returns-clause-ok c =
    closed_read c.in_ok-params.params.items c.args.text.now c.run_size-end.result c.run_size-end.ensures
    (omega (arith, c.if-end-text.false, c.run_size-end.ensures.inside)) (omega (arith, c.if-end-text-2.false)) c.in_ok-params.ensures.ok
