use Rattle.std.proofs.Common.{◌≤◌, ◌-◌, length}
use Rattle.journal_text.specs.Changes.{changes_of}
use Rattle.rewrite_cli.proofs.Batches.{AreBefore}
use Rattle.rewrite_cli.proofs.changes.place_of.Given as goal

abbrev pub invariant-loop-at : goal.invariant-loop-at
invariant-loop-at l = record {
  before : AreBefore (changes_of l.entries) l.path l.at;
  in_range : l.at ≤ length l.entries;
}

abbrev pub decreases-loop-at : goal.decreases-loop-at
decreases-loop-at l = length l.entries - l.at
