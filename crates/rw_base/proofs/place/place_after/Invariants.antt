use Rattle.std.proofs.Common.{◌≡◌, ◌≤◌, ◌+◌}
use Rattle.rw_base.specs.Places.{line_of, column_of}
use Rattle.rw_base.proofs.place.place_after.Given as goal

abbrev pub invariant-loop-k : goal.invariant-loop-k
invariant-loop-k l = record {
  line : l.line ≡ line_of l.bytes l.k;
  column : l.column ≡ column_of l.bytes l.k;
  few_lines : l.line ≤ l.k + 1;
  few_columns : l.column ≤ l.k + 1;
}
