use Rattle.std.proofs.Common.{arith}
use Rattle.java_lex.specs.Segments.{segments}
use Rattle.java_lex.specs.KnownSegments.{longest_of}
use Rattle.java_lex.proofs.SegmentSteps.{longest_start, longest_more, longest_end, rest_inside}
use Rattle.java_lex.proofs.segment.longest_segment.Goals as goal

pub loop-from-init : goal.loop-from-init
loop-from-init c = record { inside = omega arith; same = longest_start (longest_of (segments c.args.leaves.now)) }

pub loop-from-preserved : goal.loop-from-preserved
loop-from-preserved c = record {
  inside = rest_inside c.args.leaves.now c.loop-from.from c.segment_size-size.result c.loop-from.invariant.inside c.segment_size-size.ensures.inside;
  same =
      longest_more c.args.leaves.now c.loop-from.from c.segment_size-size.result c.loop-from.longest c.larger-longest.result
      c.segment_size-size.ensures.inside c.segment_size-size.ensures.segment c.larger-longest.ensures c.loop-from.invariant.same;
}

pub returns : goal.returns
returns c = longest_end c.args.leaves.now c.loop-from.from c.loop-from.longest c.loop-from-test.false c.loop-from.invariant.same
