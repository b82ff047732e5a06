use Rattle.std.proofs.Common.{◌≡◌}
use Rattle.memory_stores.proofs.Now.{paths_before}
use Rattle.memory_stores.proofs.table.Table.paths.Given as goal

abbrev pub invariant-loop-row : goal.invariant-loop-row
invariant-loop-row l = l.paths.items ≡ paths_before l.row-items l.row-index
