use Rattle.std.proofs.Common.{◌≡◌, ℕ, ◌+◌, ◌-◌, ◌<◌, ◌≤◌, false, length-drop, Err, List, [], ◌∷◌, ◌++◌, length, take, drop, sym, ap, subst, arith}
use Rattle.std.proofs.lemmas.List.{take_rest}
use Rattle.method_pattern.specs.declared.fault.PatternFault.TheVariants as pattern_fault
use Rattle.method_pattern.specs.declared.pattern.ParamPattern.{ParamPattern}
use Rattle.method_pattern.specs.declared.param_text.WrittenParam.{WrittenParam}
use Rattle.method_pattern.specs.Texts.{AreParams, IsWrongAt}
use Rattle.method_pattern.specs.Reading.{IsRunSize, IsParamText, IsBehindParam, IsComma}
use Rattle.method_pattern.proofs.Places.{slice_is}
use Rattle.method_pattern.proofs.Shifts.{shifted}
use Rattle.method_pattern.proofs.ParamSteps.{inner, ParamsRead, ParamRead, param_bad, param_read, params_end_read, varargs_wrong, comma_read}
use Rattle.method_pattern.proofs.param_text.read_params.Goals as goal

inside : (text : List ℕ) (at size : ℕ) → at ≤ length text → size ≤ length (take (length text - at) (drop at text))
    → (at + size ≡ length text → ⊥) → at + size < length text
inside text at size fits less other = omega (arith, ap length (take_rest text at), length-drop at text)

behind_param : (params pushed : List ParamPattern) (text : List ℕ) (at size : ℕ) (w : WrittenParam) → ParamsRead params text at
    → IsRunSize inner (take (length text - at) (drop at text)) size → IsParamText w (take (at + size - at) (drop at text))
    → w.varargs ≡ false → pushed ≡ params ++ w.param ∷ [] → ParamRead pushed text (at + size)
behind_param params pushed text at size w g run form plain is =
    subst (λ (xs : List ParamPattern). ParamRead xs text (at + size)) (sym is)
    (param_read params text at size w g (subst (λ s. IsRunSize inner s size) (take_rest text at) run)
    (subst (IsParamText w) (slice_is text at size) form) plain)

pub returns-in-Err-clause-fault : goal.returns-in-Err-clause-fault
returns-in-Err-clause-fault c n e =
    let text = c.args.text.now in
    let at = c.loop-written.at in
    let size = c.run_size.result in
    let is : c.behind.result ≡ pattern_fault.At n = cc in
    let m = shifted at n c.in-Err.fault c.behind.result c.behind.ensures is in
    subst (IsWrongAt AreParams text) m.1.1
    (param_bad c.loop-written.params.items text at size m.0 c.loop-written.invariant
    (subst (λ s. IsRunSize inner s size) (take_rest text at) c.run_size.ensures)
    (subst (λ s. IsWrongAt IsParamText s m.0) (slice_is text at size) (c.in-Err.ensures.fault m.0 (ap Err m.1.0))))

pub returns-then-behind-text-clause-ok : goal.returns-then-behind-text-clause-ok
returns-then-behind-text-clause-ok c =
    let text = c.args.text.now in
    let at = c.loop-written.at in
    let size = c.run_size.result in
    subst (λ (xs : List ParamPattern). AreParams xs text) (sym c.in_ok-push.ensures.items)
    (params_end_read c.loop-written.params.items text at size c.in-Ok.written c.loop-written.invariant
    (subst (λ s. IsRunSize inner s size) (take_rest text at) c.run_size.ensures)
    (subst (IsParamText c.in-Ok.written) (slice_is text at size) c.in-Ok.ensures.ok) c.if-behind-text.true)

pub returns-then-written-clause-fault : goal.returns-then-written-clause-fault
returns-then-written-clause-fault c n e =
    let text = c.args.text.now in
    let at = c.loop-written.at in
    let size = c.run_size.result in
    let same : at + size ≡ n = cc in
    subst (IsWrongAt AreParams text) same
    (varargs_wrong c.loop-written.params.items text at size c.in-Ok.written c.loop-written.invariant
    (subst (λ s. IsRunSize inner s size) (take_rest text at) c.run_size.ensures)
    (subst (IsParamText c.in-Ok.written) (slice_is text at size) c.in-Ok.ensures.ok) c.if-written.true
    (inside text at size c.loop-written.invariant.inside c.run_size.ensures.inside c.if-behind-text.false))

pub loop-written-preserved : goal.loop-written-preserved
loop-written-preserved c =
    let text = c.args.text.now in
    let at = c.loop-written.at in
    let size = c.run_size.result in
    let read = behind_param c.loop-written.params.items c.push.new.self.items text at size c.in-Ok.written c.loop-written.invariant
    c.run_size.ensures c.in-Ok.ensures.ok c.if-written.false c.in_ok-push.ensures.items in
    comma_read c.push.new.self.items text (at + size) c.in-Ok-read_comma.size read
    (subst (λ s. IsComma s c.in-Ok-read_comma.size) (take_rest text (at + size)) c.in-Ok-read_comma.ensures.ok)

pub returns-in-Err-read_comma-clause-fault : goal.returns-in-Err-read_comma-clause-fault
returns-in-Err-read_comma-clause-fault c n e =
    let text = c.args.text.now in
    let at = c.loop-written.at in
    let size = c.run_size.result in
    let is : c.behind-in-Err-read_comma.result ≡ pattern_fault.At n = cc in
    let m = shifted (at + size) n c.in-Err-read_comma.fault c.behind-in-Err-read_comma.result c.behind-in-Err-read_comma.ensures is in
    let read = behind_param c.loop-written.params.items c.push.new.self.items text at size c.in-Ok.written c.loop-written.invariant
    c.run_size.ensures c.in-Ok.ensures.ok c.if-written.false c.in_ok-push.ensures.items in
    subst (IsWrongAt AreParams text) m.1.1
    (read.fault m.0 (subst (λ s. IsWrongAt IsBehindParam s m.0) (take_rest text (at + size)) (c.in-Err-read_comma.ensures.fault m.0 (ap Err m.1.0))))
