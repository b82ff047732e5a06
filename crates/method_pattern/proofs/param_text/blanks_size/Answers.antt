use Rattle.std.proofs.Common.{arith}
use Rattle.std.specs.Prelude.{◌==◌}
use Rattle.std.proofs.lemmas.Bool.{eq-eqb, ne_eqb}
use Rattle.method_pattern.proofs.Places.{run_more, run_stops, run_whole}
use Rattle.method_pattern.proofs.param_text.blanks_size.Goals as goal

pub loop-at-preserved : goal.loop-at-preserved
loop-at-preserved c =
    run_more (λ b. b == 32) c.args.text.now c.loop-at.at c.loop-at-test.true c.loop-at.invariant (eq-eqb _ 32 c.if-b-ne32.false)

pub returns-then-b-ne32 : goal.returns-then-b-ne32
returns-then-b-ne32 c =
    run_stops (λ b. b == 32) c.args.text.now c.loop-at.at c.loop-at-test.true c.loop-at.invariant (ne_eqb _ 32 c.if-b-ne32.true)

pub returns : goal.returns
returns c = run_whole (λ b. b == 32) c.args.text.now c.loop-at.at (omega arith) c.loop-at.invariant
