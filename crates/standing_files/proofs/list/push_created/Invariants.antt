use Rattle.std.proofs.Common.{◌≡◌, ◌++◌, drop}
use Rattle.journal_text.specs.Changes.{changes_of}
use Rattle.standing_files.specs.Merged.{created}
use Rattle.standing_files.proofs.list.push_created.Given as goal

abbrev pub invariant-loop-entry : goal.invariant-loop-entry
invariant-loop-entry l =
    l.out.items ++ created (changes_of (drop l.entry-index l.entries)) ≡ l.initial.out.items ++ created (changes_of l.entries)
