use Rattle.std.proofs.Common.{◌≡◌, ◌≤◌, ◌+◌, drop}
use Rattle.rewrite_cli.specs.Report.{count_of}
use Rattle.rewrite_cli.proofs.report.count_of.Given as goal

abbrev pub invariant-loop-at : goal.invariant-loop-at
invariant-loop-at l = record {
  counted : l.count + count_of l.kind (drop l.at l.changes) ≡ count_of l.kind l.changes;
  below : l.count ≤ l.at;
}
