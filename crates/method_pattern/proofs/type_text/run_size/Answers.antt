use Rattle.std.proofs.Common.{not, ap, sym, ◌∙◌, arith}
use Rattle.method_pattern.specs.Reading.{outside}
use Rattle.method_pattern.proofs.Places.{run_more, run_stops, run_whole}
use Rattle.method_pattern.proofs.type_text.run_size.Goals as goal

pub loop-at-preserved : goal.loop-at-preserved
loop-at-preserved c =
    run_more (outside c.args.ends.now) c.args.text.now c.loop-at.at c.loop-at-test.true c.loop-at.invariant
    (ap not (sym c.is_one_of.ensures ∙ c.if-is_one_of.false))

pub returns-then-is_one_of : goal.returns-then-is_one_of
returns-then-is_one_of c =
    run_stops (outside c.args.ends.now) c.args.text.now c.loop-at.at c.loop-at-test.true c.loop-at.invariant
    (ap not (sym c.is_one_of.ensures ∙ c.if-is_one_of.true))

pub returns : goal.returns
returns c = run_whole (outside c.args.ends.now) c.args.text.now c.loop-at.at (omega arith) c.loop-at.invariant
