use Rattle.std.proofs.Common.{◌≡◌, ◌+◌, Err, length, take, sym, ap, subst, ◌∙◌, arith}
use Rattle.std.specs.Prelude.{◌==◌}
use Rattle.std.proofs.lemmas.List.{take_all, take_rest}
use Rattle.std.proofs.lemmas.Result.{err_from_is_err_and}
use Rattle.method_pattern.specs.declared.fault.PatternFault.TheVariants as pattern_fault
use Rattle.method_pattern.specs.Texts.{IsTypePattern, IsMethodPattern, IsWrongAt}
use Rattle.method_pattern.specs.Reading.{IsRunSize, IsCall}
use Rattle.method_pattern.proofs.Shifts.{shifted}
use Rattle.method_pattern.proofs.MethodSteps.{owner_wrong, space_missing, call_wrong, pattern_read}
use Rattle.method_pattern.proofs.OnePattern.{made}
use Rattle.method_pattern.proofs.pattern.MethodPattern.read.Goals as goal

pub returns-in_err-owner-clause-fault : goal.returns-in_err-owner-clause-fault
returns-in_err-owner-clause-fault c n e =
    let p = err_from_is_err_and c.from_residual.result c.from_residual.ensures.1 in
    let is : c.in_err-owner.field-0.0 ≡ pattern_fault.At n = cc in
    owner_wrong c.args.text.now c.run_size-end.result n c.run_size-end.ensures (c.in_err-owner.ensures.fault n (ap Err is))

pub returns-then-end-text-clause-fault : goal.returns-then-end-text-clause-fault
returns-then-end-text-clause-fault c n e =
    let text = c.args.text.now in
    let same : length text ≡ n = sym c.if-end-text.true ∙ (let size : c.run_size-end.result ≡ n = cc in size) in
    let whole : take c.run_size-end.result text ≡ text = take_all c.run_size-end.result text (omega (arith, c.if-end-text.true)) in
    subst (IsWrongAt IsMethodPattern text) same
    (space_missing c.in_ok-owner.owner text (subst (IsTypePattern c.in_ok-owner.owner) whole c.in_ok-owner.ensures.pattern))

pub returns-in-Ok-clause-pattern : goal.returns-in-Ok-clause-pattern
returns-in-Ok-clause-pattern c =
    let text = c.args.text.now in
    let size = c.run_size-end.result in
    let blanks = c.blanks_size.result in
    let params = c.in-Ok.params.items in
    let read = pattern_read c.in_ok-owner.owner (c.in-Ok.name, params) text size blanks c.run_size-end.ensures
    (omega (arith, c.if-end-text.false, c.run_size-end.ensures.inside)) c.in_ok-owner.ensures.pattern
    (subst (λ s. IsRunSize (λ b. b == 32) s blanks) (take_rest text (size + 1)) c.blanks_size.ensures)
    (subst (IsCall (c.in-Ok.name, params)) (take_rest text (size + 1 + blanks)) c.in-Ok.ensures.ok) in
    subst (λ p. IsMethodPattern p text)
    (ap (λ o. made o c.in-Ok.name params) (sym c.new.ensures.owner)
    ∙ (ap (λ n. made c.new.result.owner n params) (sym c.new.ensures.name)
    ∙ ap (λ p. made c.new.result.owner c.new.result.name p) (sym c.new.ensures.params)))
    read

pub returns-in-Err-clause-fault : goal.returns-in-Err-clause-fault
returns-in-Err-clause-fault c n e =
    let text = c.args.text.now in
    let size = c.run_size-end.result in
    let blanks = c.blanks_size.result in
    let is : c.behind.result ≡ pattern_fault.At n = cc in
    let m = shifted (size + 1 + blanks) n c.in-Err.fault c.behind.result c.behind.ensures is in
    subst (IsWrongAt IsMethodPattern text) m.1.1
    (call_wrong c.in_ok-owner.owner text size blanks m.0 c.run_size-end.ensures
    (omega (arith, c.if-end-text.false, c.run_size-end.ensures.inside)) c.in_ok-owner.ensures.pattern
    (subst (λ s. IsRunSize (λ b. b == 32) s blanks) (take_rest text (size + 1)) c.blanks_size.ensures)
    (subst (λ s. IsWrongAt IsCall s m.0) (take_rest text (size + 1 + blanks)) (c.in-Err.ensures.fault m.0 (ap Err m.1.0))))
