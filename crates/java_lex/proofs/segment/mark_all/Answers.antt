use Rattle.std.proofs.Common.{◌+◌, ◌-◌, length, arith, refl}
use Rattle.java_lex.specs.Segments.{AreMarked}
use Rattle.java_lex.proofs.SegmentSteps.{further_on, all_done, room_rest}
use Rattle.java_lex.proofs.segment.mark_all.Goals as goal

pub loop-from-init : goal.loop-from-init
loop-from-init c = record { further = record { inside = omega arith; long = refl; left = refl; done = λ rest h. h }; room = c.requires.types }

pub loop-from-preserved : goal.loop-from-preserved
loop-from-preserved c = record {
  further =
      further_on c.args.leaves.now c.loop-from.leaves c.mark_segment.new.leaves c.loop-from.from c.segment_size-size.result (c.loop-from.from + c.segment_size-size.result - c.loop-from.from)
      (omega arith) c.loop-from.invariant.further (omega arith) c.segment_size-size.ensures.inside c.segment_size-size.ensures.segment c.mark_segment.ensures;
  room =
      (room_rest c.args.leaves.now c.loop-from.leaves c.loop-from.from c.segment_size-size.result (length c.args.types.now) c.loop-from.invariant.further
      c.segment_size-size.ensures.inside c.segment_size-size.ensures.segment c.loop-from.invariant.room).1;
}

pub returns : goal.returns
unfolding AreMarked
returns c = all_done c.args.leaves.now c.loop-from.leaves c.loop-from.from (omega arith) (omega arith) c.loop-from.invariant.further.done
