use Rattle.std.proofs.Common.{arith}
use Rattle.command_words.proofs.WordSteps.{here_is, other_is}
use Rattle.command_words.proofs.words.cut_at_equals.Goals as goal

pub returns-then-word-at-eq61 : goal.returns-then-word-at-eq61
returns-then-word-at-eq61 c = here_is c.args.word.now c.loop-at.at (omega (arith, c.loop-at-test.true)) c.if-word-at-eq61.true c.loop-at.invariant

pub loop-at-preserved : goal.loop-at-preserved
loop-at-preserved c = other_is c.args.word.now c.loop-at.at (omega (arith, c.loop-at-test.true)) c.if-word-at-eq61.false c.loop-at.invariant
