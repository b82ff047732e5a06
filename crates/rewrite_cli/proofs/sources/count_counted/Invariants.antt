use Rattle.std.proofs.Common.{◌≡◌, ◌≤◌, ◌+◌, drop}
use Rattle.rewrite_cli.specs.Sources.{count_counted}
use Rattle.rewrite_cli.proofs.sources.count_counted.Given as goal

abbrev pub invariant-loop-at : goal.invariant-loop-at
invariant-loop-at l = record {
  counted : l.count + count_counted (drop l.at l.paths) ≡ count_counted l.paths;
  below : l.count ≤ l.at;
}
