use Rattle.std.proofs.Common.{◌≡◌, length}
use Rattle.journal_text.specs.Changes.{changes_of}
use Rattle.journal_text.specs.Parts.{Going}
use Rattle.journal_text.proofs.entries.entries.Given as goal

abbrev pub invariant-loop-index : goal.invariant-loop-index
invariant-loop-index l = record {
  going : Going l.bytes l.end l.count (changes_of l.entries.items);
  count : length (changes_of l.entries.items) ≡ l.index;
}
