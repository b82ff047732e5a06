use Rattle.std.proofs.Common.{arith, sym, ◌+◌}
use Rattle.journal_text.specs.Forms.{StuckAt}
use Rattle.journal_text.specs.Parts.{IsWord}
use Rattle.journal_text.proofs.Places.{word_step, on_at}
use Rattle.journal_text.proofs.Stuck.{word_stuck}
use Rattle.journal_text.proofs.parts.word.Goals as goal

pub loop-i-preserved : goal.loop-i-preserved
loop-i-preserved c =
    let next = word_step c.args.bytes.now c.args.word.now c.args.at c.loop-i.i (omega arith) c.loop-i.invariant.same (sym c.if-not-holds.ensures) in
    record { place = next.0; same = next.1 }

pub returns-then-not-holds-clause-stuck : goal.returns-then-not-holds-clause-stuck
returns-then-not-holds-clause-stuck c = on_at _ (c.args.at + c.loop-i.i) (StuckAt (IsWord c.args.word.now) c.args.bytes.now c.args.at) c.stop_at.ensures
    (word_stuck c.args.bytes.now c.args.word.now c.args.at c.loop-i.i (omega arith) c.loop-i.invariant.place c.loop-i.invariant.same (sym c.if-not-holds.ensures))
