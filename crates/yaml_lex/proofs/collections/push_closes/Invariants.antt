use Rattle.std.proofs.Common.{◌≡◌, ◌++◌}
use Rattle.yaml_lex.specs.Collections.{closes}
use Rattle.yaml_lex.proofs.collections.push_closes.Given as goal

abbrev pub invariant-loop-done : goal.invariant-loop-done
invariant-loop-done l = l.leaves.items ≡ l.fn.leaves.items ++ closes l.at l._done
