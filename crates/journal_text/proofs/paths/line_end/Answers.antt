use Rattle.std.proofs.Common.{arith}
use Rattle.journal_text.proofs.Lines.{lacks_nothing, lacks_more}
use Rattle.journal_text.proofs.paths.line_end.Goals as goal

pub loop-end-init : goal.loop-end-init
loop-end-init c = lacks_nothing c.args.bytes.now c.args.at

pub loop-end-preserved : goal.loop-end-preserved
loop-end-preserved c = lacks_more c.args.bytes.now c.args.at c.loop-end.end (omega (arith, c.loop-end.auto.end)) (omega arith) c.if-bytes-end-eq10.false c.loop-end.invariant
