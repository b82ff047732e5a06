use Rattle.std.proofs.Common.{◌≡◌, ◌++◌, drop}
use Rattle.journal_text.specs.Changes.{changes_of}
use Rattle.rewrite_cli.specs.Changes.{batch_of}
use Rattle.rewrite_cli.proofs.changes.batch_of.Given as goal

abbrev pub invariant-loop-change : goal.invariant-loop-change
invariant-loop-change l = changes_of l.entries.items ++ batch_of (drop l.change-index l.changes) ≡ batch_of l.changes
