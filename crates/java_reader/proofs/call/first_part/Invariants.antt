use Rattle.std.proofs.Common.{◌≤◌, ◌-◌, length}
use Rattle.java_reader.specs.Walking.{BeginsBefore}
use Rattle.java_reader.proofs.call.first_part.Given as goal

abbrev pub invariant-loop-from : goal.invariant-loop-from
invariant-loop-from l = record {
  order : l.from ≤ l.to;
  inside : l.to ≤ length l.parts;
  before : BeginsBefore l.tree l.fn.n.0 l.fn.first l.from;
}

abbrev pub decreases-loop-from : goal.decreases-loop-from
decreases-loop-from l = l.to - l.from
