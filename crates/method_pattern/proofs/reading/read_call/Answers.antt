use Rattle.std.proofs.Common.{◌≡◌, ◌+◌, Err, length, take, sym, ap, subst, ◌∙◌, arith}
use Rattle.std.proofs.lemmas.List.{take_all, take_rest}
use Rattle.std.proofs.lemmas.Result.{err_from_is_err_and}
use Rattle.method_pattern.specs.declared.fault.PatternFault.TheVariants as pattern_fault
use Rattle.method_pattern.specs.Texts.{IsName, IsWrongAt}
use Rattle.method_pattern.specs.Reading.{IsClosed, IsCall}
use Rattle.method_pattern.proofs.Shifts.{shifted}
use Rattle.method_pattern.proofs.MethodSteps.{call_left, call_missing, call_right, call_read}
use Rattle.method_pattern.proofs.reading.read_call.Goals as goal

pub returns-in_err-read_name-clause-fault : goal.returns-in_err-read_name-clause-fault
returns-in_err-read_name-clause-fault c n e =
    let p = err_from_is_err_and c.from_residual.result c.from_residual.ensures.1 in
    let is : c.in_err-read_name.field-0.0 ≡ pattern_fault.At n = cc in
    call_left c.args.text.now c.run_size-end.result n c.run_size-end.ensures (c.in_err-read_name.ensures.fault n (ap Err is))

pub returns-then-end-text-clause-fault : goal.returns-then-end-text-clause-fault
returns-then-end-text-clause-fault c n e =
    let text = c.args.text.now in
    let same : length text ≡ n = sym c.if-end-text.true ∙ (let size : c.run_size-end.result ≡ n = cc in size) in
    let whole : take c.run_size-end.result text ≡ text = take_all c.run_size-end.result text (omega (arith, c.if-end-text.true)) in
    subst (IsWrongAt IsCall text) same (call_missing text (subst IsName whole c.in_ok-read_name.ensures.ok))

pub returns-in-Ok-clause-ok : goal.returns-in-Ok-clause-ok
returns-in-Ok-clause-ok c =
    let text = c.args.text.now in
    let size = c.run_size-end.result in
    call_read text c.in_ok-name.name c.in-Ok.params.items size c.run_size-end.ensures
    (omega (arith, c.if-end-text.false, c.run_size-end.ensures.inside)) c.in_ok-name.ensures c.in_ok-read_name.ensures.ok
    (subst (IsClosed c.in-Ok.params.items) (take_rest text (size + 1)) c.in-Ok.ensures.ok)

pub returns-in-Err-clause-fault : goal.returns-in-Err-clause-fault
returns-in-Err-clause-fault c n e =
    let text = c.args.text.now in
    let size = c.run_size-end.result in
    let is : c.behind.result ≡ pattern_fault.At n = cc in
    let m = shifted (size + 1) n c.in-Err.fault c.behind.result c.behind.ensures is in
    subst (IsWrongAt IsCall text) m.1.1
    (call_right text size m.0 c.run_size-end.ensures (omega (arith, c.if-end-text.false, c.run_size-end.ensures.inside))
    c.in_ok-read_name.ensures.ok
    (subst (λ s. IsWrongAt IsClosed s m.0) (take_rest text (size + 1)) (c.in-Err.ensures.fault m.0 (ap Err m.1.0))))
