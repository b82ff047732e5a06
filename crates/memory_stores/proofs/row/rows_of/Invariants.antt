use Rattle.std.proofs.Common.{◌≡◌, ◌++◌}
use Rattle.std.specs.Vec.Iter.{into_iter_items}
use Rattle.memory_stores.specs.Table.{initial_states}
use Rattle.memory_stores.specs.Rows.{row_entries}
use Rattle.memory_stores.proofs.row.rows_of.Given as goal

abbrev pub invariant-loop-path : goal.invariant-loop-path
invariant-loop-path l = row_entries l.rows.items ++ initial_states (into_iter_items l.path-iterator) ≡ initial_states l.fn.files.items
