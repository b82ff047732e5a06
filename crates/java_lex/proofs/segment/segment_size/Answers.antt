use Rattle.std.proofs.Common.{◌∙◌, sym, add-one, arith}
use Rattle.java_lex.proofs.SegmentSteps.{segment_at, segment_whole}
use Rattle.java_lex.proofs.segment.segment_size.Goals as goal

pub returns-then-is_end-clause-segment : goal.returns-then-is_end-clause-segment
returns-then-is_end-clause-segment c = rw add-one (segment_at c.args.leaves.now c.loop-i.i c.loop-i.invariant (omega arith) (sym c.is_end.ensures ∙ c.if-is_end.true))

pub returns-clause-segment : goal.returns-clause-segment
returns-clause-segment c = segment_whole c.args.leaves.now (λ k h. c.loop-i.invariant k (omega arith)) c.requires
