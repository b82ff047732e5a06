use Rattle.std.proofs.Common.{◌≡◌, max, ◌-◌, ◌≤◌, drop, length}
use Rattle.java_lex.specs.Segments.{segments}
use Rattle.java_lex.specs.KnownSegments.{longest_of}
use Rattle.java_lex.proofs.segment.longest_segment.Given as goal

abbrev pub invariant-loop-from : goal.invariant-loop-from
invariant-loop-from l = record {
  inside : l.from ≤ length l.leaves;
  same : max l.longest (longest_of (segments (drop l.from l.leaves))) ≡ longest_of (segments l.leaves);
}

abbrev pub decreases-loop-from : goal.decreases-loop-from
decreases-loop-from l = length l.leaves - l.from
