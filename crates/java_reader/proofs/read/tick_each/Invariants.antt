use Rattle.std.proofs.Common.{◌≡◌, ◌+◌}
use Rattle.java_reader.proofs.read.tick_each.Given as goal

abbrev pub invariant-loop : goal.invariant-loop
invariant-loop g l = l.steps ≡ l.fn.steps + l.counter
