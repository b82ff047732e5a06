use Rattle.std.proofs.Common.{◌≡◌, ◌≤◌, ◌+◌, ◌-◌, drop, length}
use Rattle.rewrite_cli.specs.Ends.{count_before}
use Rattle.rewrite_cli.proofs.opening.count_before.Given as goal

abbrev pub invariant-loop-at : goal.invariant-loop-at
invariant-loop-at l = record {
  count : l.at + count_before (drop l.at l.files) l.path ≡ count_before l.files l.path;
  in_range : l.at ≤ length l.files;
}

abbrev pub decreases-loop-at : goal.decreases-loop-at
decreases-loop-at l = length l.files - l.at
