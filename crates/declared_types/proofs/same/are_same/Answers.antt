use Rattle.std.proofs.Common.{◌∙◌, ◌≡◌, sym, ap, length, false, arith, rules}
use Rattle.std.proofs.lemmas.Bool.{false≢true}
use Rattle.declared_types.proofs.SameLists.{same_from, same_at}
use Rattle.declared_types.proofs.same.are_same.Goals as goal

pub returns-then-items-others : goal.returns-then-items-others
returns-then-items-others g c = (λ h. absurd (false≢true h), λ e. absurd (c.if-items-others.true (ap length e)))

pub returns-then-not-is_same : goal.returns-then-not-is_same
returns-then-not-is_same g c =
    let same : c.args.items.now ≡ c.args.others.now → c.index-items-at.result ≡ c.index-others-at.result =
    same_at c.args.items.now c.args.others.now c.loop-at.at c.index-items-at.result c.index-others-at.result
    c.loop-at-test.true (omega arith) c.index-items-at.is c.index-others-at.is in
    let not_same : c.is_same.result ≡ false = search rules in
    (λ h. absurd (false≢true h), λ e. absurd (false≢true (sym not_same ∙ c.is_same.ensures.1 (same e))))

pub loop-at-preserved : goal.loop-at-preserved
loop-at-preserved g c h =
    c.loop-at.invariant (same_from c.args.items.now c.args.others.now c.loop-at.at c.index-items-at.result
    c.index-others-at.result c.loop-at-test.true (omega arith) c.index-items-at.is c.index-others-at.is
    (c.is_same.ensures.0 (search rules)) h)
