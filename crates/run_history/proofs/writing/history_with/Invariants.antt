use Rattle.std.proofs.Common.{◌≡◌, flat_map, map, take}
use Rattle.run_history.specs.History.{AreRecordsOf, row_line, written}
use Rattle.run_history.specs.Writer.{IsFresh, text_in}
use Rattle.run_history.proofs.writing.history_with.Given as goal

abbrev pub invariant-loop-past : goal.invariant-loop-past
invariant-loop-past l = IsFresh l.writer × (text_in l.writer ≡ flat_map row_line (take l.past-index l.rows)) × AreRecordsOf (take l.past-index l.rows) (map written (take l.past-index l.rows))
