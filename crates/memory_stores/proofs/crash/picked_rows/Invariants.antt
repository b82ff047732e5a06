use Rattle.std.proofs.Common.{◌≡◌, ◌++◌}
use Rattle.memory_stores.specs.Rows.{row_entries}
use Rattle.memory_stores.proofs.Picks.{rest_by}
use Rattle.memory_stores.proofs.crash.picked_rows.Given as goal

-- what is made and what the rows that are left give is what all of them give
abbrev pub invariant-loop-at : goal.invariant-loop-at
invariant-loop-at l = row_entries l.picked.items ++ rest_by l.log l.rows l.sync l.left l.at ≡ rest_by l.log l.rows l.sync l.pick 0
