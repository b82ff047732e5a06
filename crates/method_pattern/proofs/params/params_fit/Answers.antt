use Rattle.std.proofs.Common.{◌≡◌, rules}
use Rattle.method_pattern.specs.Matching.{ParamTakes}
use Rattle.method_pattern.specs.declared.pattern.ParamPattern.{ParamPattern}
use Rattle.method_pattern.specs.declared.pattern.ParamPattern.TheVariants.{Rest}
use Rattle.method_pattern.proofs.Tries.{gap_try, take_try, next_try, it_fits, none_fits, gap_fewer}
use Rattle.method_pattern.proofs.params.params_fit.Goals as goal

abbrev IsGap : ParamPattern → Type 0
IsGap p = p ≡ Rest

pub returns-in-Ended : goal.returns-in-Ended
returns-in-Ended c =
    let e = c.in-Ended.ensures in
    let t = c.loop-others.invariant in
    (λ h. it_fits IsGap ParamTakes c.loop-others.left.now c.loop-others.rest.now e.0 e.1 t, λ f. search rules)

pub returns-in-None : goal.returns-in-None
returns-in-None c =
    let none = none_fits IsGap ParamTakes c.loop-others.left.now c.loop-others.rest.now c.loop-others.behind.now c.loop-others.from.now c.in-None.ensures c.in-Stuck.ensures c.loop-others.invariant in
    (λ h. search rules, λ f. absurd (none f))

pub loop-others-smaller-in-Gap : goal.loop-others-smaller-in-Gap
loop-others-smaller-in-Gap c =
    let e = c.in-Gap.ensures in
    gap_fewer IsGap ParamTakes c.loop-others.left.now c.loop-others.rest.now c.loop-others.behind.now c.loop-others.from.now e.0 c.in-Gap.others.now e.1 c.loop-others.invariant

pub loop-others-preserved-in-Gap : goal.loop-others-preserved-in-Gap
loop-others-preserved-in-Gap c =
    let e = c.in-Gap.ensures in
    gap_try IsGap ParamTakes c.loop-others.left.now c.loop-others.rest.now e.0 c.in-Gap.others.now e.1 e.2 c.loop-others.invariant

pub loop-others-preserved-in-Taken : goal.loop-others-preserved-in-Taken
loop-others-preserved-in-Taken c =
    let e = c.in-Taken.ensures in
    take_try IsGap ParamTakes c.loop-others.left.now c.loop-others.rest.now e.0 c.in-Taken.others.now e.1 c.in-Taken.further.now e.2 e.3 e.4 e.5 c.loop-others.invariant

pub loop-others-preserved : goal.loop-others-preserved
loop-others-preserved c =
    let e = c.in-Some.ensures in
    next_try IsGap ParamTakes c.loop-others.left.now c.loop-others.rest.now c.loop-others.behind.now c.loop-others.from.now e.0 c.in-Some.further.now e.1 c.in-Stuck.ensures c.loop-others.invariant
