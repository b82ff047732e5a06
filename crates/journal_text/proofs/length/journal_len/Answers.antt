use Rattle.std.proofs.Common.{◌≡◌, length, arith, ap}
use Rattle.journal_text.specs.Changes.{changes_of}
use Rattle.journal_text.specs.Numerals.{numeral}
use Rattle.journal_text.specs.Text.{entries_text}
use Rattle.journal_text.proofs.Lengths.{length-journal_text, length-changes_of}
use Rattle.journal_text.proofs.length.journal_len.Goals as goal

pub returns : goal.returns
returns c =
    let entries = c.args.batch.now.entries in
    let e = length-journal_text (changes_of entries.items) in
    let n : length (changes_of entries.items) ≡ c.len.result = omega (arith, length-changes_of entries.items, entries.ok.0) in
    let k = ap (λ m. length (numeral m)) n in
    let d = ap (λ es. length (entries_text (changes_of es))) c.deref.ensures.value in
    omega arith
