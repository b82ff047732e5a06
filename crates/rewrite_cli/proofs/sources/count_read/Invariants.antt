use Rattle.std.proofs.Common.{◌≡◌, ◌≤◌, ◌+◌, drop}
use Rattle.rewrite_cli.specs.Sources.{count_read}
use Rattle.rewrite_cli.proofs.sources.count_read.Given as goal

abbrev pub invariant-loop-at : goal.invariant-loop-at
invariant-loop-at l = record {
  counted : l.count + count_read (drop l.at l.paths) ≡ count_read l.paths;
  below : l.count ≤ l.at;
}
