use Rattle.std.proofs.Common.{◌≡◌, ◌+◌, ◌-◌, ◌^◌, ◌<◌, min, length, drop}
use Rattle.journal_text.specs.Changes.{changes_of}
use Rattle.journal_text.specs.Text.{entries_text}
use Rattle.journal_text.proofs.length.entries_len.Given as goal

abbrev pub invariant-loop-entry : goal.invariant-loop-entry
invariant-loop-entry l = (min (l.len + length (entries_text (changes_of (drop l.entry-index l.entries)))) (2 ^ 64 - 1) ≡ min (length (entries_text (changes_of l.entries))) (2 ^ 64 - 1)) × (l.len < 2 ^ 64)
