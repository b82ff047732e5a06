use Rattle.std.proofs.Common.{◌≡◌, ◌≤◌, ◌+◌, drop}
use Rattle.rewrite_cli.specs.Report.{count_read_in}
use Rattle.rewrite_cli.proofs.report.count_read_in.Given as goal

abbrev pub invariant-loop-at : goal.invariant-loop-at
invariant-loop-at l = record {
  counted : l.count + count_read_in (drop l.at l.files) ≡ count_read_in l.files;
  below : l.count ≤ l.at;
}
