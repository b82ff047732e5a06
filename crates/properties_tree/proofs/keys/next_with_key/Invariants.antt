use Rattle.std.proofs.Common.{length, ◌-◌}
use Rattle.properties_tree.proofs.Keyed.{AreKept}
use Rattle.properties_tree.proofs.keys.next_with_key.Given as goal

abbrev pub invariant-loop-line : goal.invariant-loop-line
invariant-loop-line l = AreKept l.key l.bytes l.at l.line

abbrev pub decreases-loop-line : goal.decreases-loop-line
decreases-loop-line l = length l.bytes - l.line
