use Rattle.std.proofs.Common.{◌-◌, ◌≤◌, drop, length}
use Rattle.java_lex.specs.Segments.{segments}
use Rattle.java_lex.specs.KnownSegments.{longest_of}
use Rattle.java_lex.proofs.SegmentSteps.{Further}
use Rattle.java_lex.proofs.segment.mark_all.Given as goal

abbrev pub invariant-loop-from : goal.invariant-loop-from
invariant-loop-from l = record {
  further : Further l.initial.leaves l.leaves l.from;
  room : longest_of (segments (drop l.from l.initial.leaves)) ≤ length l.initial.types;
}

abbrev pub decreases-loop-from : goal.decreases-loop-from
decreases-loop-from l = length l.initial.leaves - l.from
