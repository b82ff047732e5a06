use Rattle.std.proofs.Common.{◌≡◌, ◌++◌, drop}
use Rattle.journal_text.specs.Changes.{changes_of, ArePaths}
use Rattle.journal_text.specs.Text.{entries_text}
use Rattle.journal_text.proofs.text.push_entries.Given as goal

abbrev pub invariant-loop-entry : goal.invariant-loop-entry
invariant-loop-entry l = record {
  text : l.out.items ++ entries_text (changes_of (drop l.entry-index l.entries)) ≡ l.initial.out.items ++ entries_text (changes_of l.entries);
  paths : ArePaths (changes_of (drop l.entry-index l.entries)) → ArePaths (changes_of l.entries);
}
