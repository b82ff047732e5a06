use Rattle.j_attrib.proofs.ExpressionSteps.{words_over, operands_over}
use Rattle.j_attrib.proofs.expressions.operations.Goals as goal
use Rattle.j_attrib.proofs.expressions.operations.Goals.{then-loop-at-test+else-at-types, else-loop-at-test}

pub returns : goal.returns
returns c =
    let cs = c.args.words.now in
    let ts = c.args.types.now in
    elim c.loop-at-test.branch [
      | then-loop-at-test+else-at-types w ↦ operands_over _ _ cs ts c.loop-at.at w.if-at-types.false c.loop-at.invariant.same
      | else-loop-at-test w ↦ words_over _ _ cs ts c.loop-at.at w.loop-at-test.false c.loop-at.invariant.same
    ]
