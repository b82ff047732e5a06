use Rattle.std.proofs.Common.{sym, refl, take_all}
use Rattle.std.proofs.lemmas.List.{take_rest}
use Rattle.method_pattern.proofs.Parts.{one_part, first_part, no_dot_yet}
use Rattle.method_pattern.proofs.names.split_part.Goals as goal

pub returns-then-b-eq46 : goal.returns-then-b-eq46
returns-then-b-eq46 c =
    rw take_rest
    (first_part c.args.name.now c.loop-at.at 46 c.loop-at-test.true (sym c.if-b-eq46.true) refl c.loop-at.invariant)

pub loop-at-preserved : goal.loop-at-preserved
loop-at-preserved c = no_dot_yet c.args.name.now c.loop-at.at c.loop-at-test.true c.if-b-eq46.false c.loop-at.invariant

pub returns : goal.returns
returns c = one_part c.args.name.now (rw (take_all _ _ c.loop-at-test.false) at c.loop-at.invariant)
