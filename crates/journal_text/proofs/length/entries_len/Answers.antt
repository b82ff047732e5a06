use Rattle.std.proofs.Common.{arith}
use Rattle.std.proofs.lemmas.List.{drop_all}
use Rattle.journal_text.proofs.length.entries_len.Goals as goal

pub returns : goal.returns
returns c =
    let e = drop_all c.loop-entry.entry-index c.args.entries.now (omega arith) in
    let h = rw e at c.loop-entry.invariant.0 in omega (arith, h)
