use Rattle.std.proofs.Common.{◌∙◌, ◌≡◌, sym, ap, length, arith, rules}
use Rattle.jtypes.proofs.Equality.{true_false}
use Rattle.jtypes.proofs.Lists.{same_from, same_at}
use Rattle.jtypes.proofs.types.are_same_types.Goals as goal

pub returns-then-types-others : goal.returns-then-types-others
returns-then-types-others c = (λ h. true_false (sym h), λ e. absurd (c.if-types-others.true (ap length e)))

pub returns-then-not-is : goal.returns-then-not-is
returns-then-not-is c =
    let at = c.loop-at.at in
    let ts = c.args.types.now in
    let us = c.args.others.now in
    let t = c.index-types-at.result in
    let u = c.index-others-at.result in
    let same : ts ≡ us → t ≡ u = λ e. same_at ts us at t u c.loop-at-test.true (omega arith) c.index-types-at.is c.index-others-at.is e in
    (λ h. true_false (sym h), λ e. true_false (sym (c.is.ensures.1 (same e)) ∙ search rules))

pub loop-at-preserved : goal.loop-at-preserved
loop-at-preserved c h =
    c.loop-at.invariant (same_from c.args.types.now c.args.others.now c.loop-at.at c.index-types-at.result c.index-others-at.result c.loop-at-test.true (omega arith) c.index-types-at.is c.index-others-at.is (c.is.ensures.0 (search rules)) h)
