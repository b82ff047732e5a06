use Rattle.std.proofs.Common.{sym}
use Rattle.journal_text.specs.Forms.{StuckAt}
use Rattle.journal_text.specs.Parts.{IsNumeral, Ended}
use Rattle.journal_text.proofs.Numbering.{number_took, number_stuck, number_nowhere}
use Rattle.journal_text.proofs.Places.{on_at}
use Rattle.journal_text.proofs.parts.number.Goals as goal

pub returns-in-None-clause-stuck : goal.returns-in-None-clause-stuck
returns-in-None-clause-stuck c = on_at _ _ (StuckAt (Ended IsNumeral c.args.end) c.args.bytes.now c.args.at) c.stop_at.ensures (number_nowhere c.args.end _ _ c.requires.inside c.in-None.ensures.none)

pub returns-then-holds-clause-took : goal.returns-then-holds-clause-took
returns-then-holds-clause-took c = number_took c.args.end c.args.bytes.now c.args.at c.in-Some.behind c.in-Some.value c.in-Some.ensures.some (sym c.if-holds.ensures)

pub returns-else-holds-clause-stuck : goal.returns-else-holds-clause-stuck
returns-else-holds-clause-stuck c = on_at _ c.in-Some.behind (StuckAt (Ended IsNumeral c.args.end) c.args.bytes.now c.args.at) c.stop_at-else-holds.ensures
    (number_stuck c.args.end c.args.bytes.now c.args.at c.in-Some.behind c.in-Some.value c.requires.no_digit c.in-Some.ensures.some (sym c.if-holds.ensures))
