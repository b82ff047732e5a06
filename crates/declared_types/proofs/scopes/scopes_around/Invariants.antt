use Rattle.std.proofs.Common.{◌≡◌, map, take}
use Rattle.std.specs.List.{enumerate_from}
use Rattle.declared_types.specs.Erasure.{scope_around}
use Rattle.declared_types.proofs.scopes.scopes_around.Given as goal

abbrev pub invariant-loop-depth : goal.invariant-loop-depth
invariant-loop-depth l = l.scopes.items ≡ map (scope_around l.d.cx) (enumerate_from 0 (take l.depth l.around))
