use Rattle.std.proofs.Common.{◌≡◌, ◌≤◌, length}
use Rattle.memory_stores.proofs.Now.{paths_before}
use Rattle.memory_stores.proofs.table.Table.len.Given as goal

abbrev pub invariant-loop-row : goal.invariant-loop-row
invariant-loop-row l = (l.len ≡ length (paths_before l.row-items l.row-index)) × (l.len ≤ l.row-index)
