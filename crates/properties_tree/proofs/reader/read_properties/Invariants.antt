use Rattle.std.proofs.Common.{length, ◌-◌}
use Rattle.properties_tree.specs.Reading.{IsRead}
use Rattle.properties_tree.proofs.reader.read_properties.Given as goal

abbrev pub invariant-loop-at : goal.invariant-loop-at
invariant-loop-at l = IsRead l.bytes l.leaves.items l.nodes.items l.from l.at

abbrev pub decreases-loop-at : goal.decreases-loop-at
decreases-loop-at l = length l.bytes - l.at
