use Rattle.std.proofs.Common.{length}
use Rattle.run_history.specs.Reader.{IsBetween, left_in}
use Rattle.run_history.proofs.Rows.{IsReadSoFar}
use Rattle.run_history.proofs.reading.read_history.Given as goal

abbrev pub invariant-loop-rows : goal.invariant-loop-rows
invariant-loop-rows l = IsBetween l.reader × IsReadSoFar l.fn.bytes l.rows.items (left_in l.reader)

abbrev pub decreases-loop-rows : goal.decreases-loop-rows
decreases-loop-rows l = length (left_in l.reader)
