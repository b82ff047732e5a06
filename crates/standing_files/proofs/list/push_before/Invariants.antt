use Rattle.std.proofs.Common.{◌≡◌, ◌++◌, drop}
use Rattle.journal_text.specs.Changes.{changes_of}
use Rattle.standing_files.specs.Merged.{created_before, from_on}
use Rattle.standing_files.proofs.list.push_before.Given as goal

abbrev pub invariant-loop-at : goal.invariant-loop-at
invariant-loop-at l =
    let left = changes_of (drop l.at l.entries) in
    record {
      paths : l.out.items ++ created_before l.path left ≡ l.initial.out.items ++ created_before l.path (changes_of l.entries);
      rest : from_on l.path left ≡ from_on l.path (changes_of l.entries);
    }
