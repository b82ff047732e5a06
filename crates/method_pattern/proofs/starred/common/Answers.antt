use Rattle.std.proofs.Common.{arith}
use Rattle.method_pattern.proofs.WordFronts.{common_end}
use Rattle.method_pattern.proofs.starred.common.Goals as goal

pub returns-clause-size : goal.returns-clause-size
returns-clause-size c = omega (arith, c.loop-at.invariant, common_end c.args.word.now c.args.text.now c.loop-at.at (omega arith))
