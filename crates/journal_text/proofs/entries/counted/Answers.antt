use Rattle.std.proofs.Common.{◌≡◌, ℕ, ◌^◌, ◌-◌, min, arith}
use Rattle.journal_text.specs.Forms.{StuckAt}
use Rattle.journal_text.specs.Parts.{Counted}
use Rattle.journal_text.proofs.EntryTexts.{counted_took, counted_stuck}
use Rattle.journal_text.proofs.Places.{on_at}
use Rattle.journal_text.proofs.entries.counted.Goals as goal

pub returns-then-bytes-at-clause-stuck : goal.returns-then-bytes-at-clause-stuck
returns-then-bytes-at-clause-stuck c = on_at _ _ (λ stop. (n : ℕ) → c.args.count ≡ min n (2 ^ 64 - 1) → StuckAt (Counted n) c.args.bytes.now c.args.at stop) c.stop_at.ensures
    (λ n e. counted_stuck n c.args.count c.args.bytes.now c.args.at c.requires.inside (omega arith) e)

pub returns-clause-took : goal.returns-clause-took
returns-clause-took c = λ n e. counted_took n c.args.count c.args.bytes.now c.args.at c.in_ok-copy.copy.items (omega (arith, c.requires.size)) (omega arith) c.requires.inside c.in_ok-copy.ensures.items e
