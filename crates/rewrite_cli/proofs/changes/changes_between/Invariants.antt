use Rattle.std.proofs.Common.{◌≤◌, ◌+◌, ◌-◌, drop, length}
use Rattle.rewrite_cli.specs.Changes.{changes}
use Rattle.rewrite_cli.proofs.Merging.{Notes}
use Rattle.rewrite_cli.proofs.changes.changes_between.Given as goal

abbrev pub invariant-loop-old : goal.invariant-loop-old
invariant-loop-old l = record {
  notes : Notes l.out.items (changes (drop l.old l.first) (drop l.new l.last)) (changes l.first l.last);
  old : l.old ≤ length l.first;
  new : l.new ≤ length l.last;
}

abbrev pub decreases-loop-old : goal.decreases-loop-old
decreases-loop-old l = (length l.first - l.old) + (length l.last - l.new)
