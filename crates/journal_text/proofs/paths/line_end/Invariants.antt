use Rattle.journal_text.specs.Parts.{Lacks, between}
use Rattle.journal_text.proofs.paths.line_end.Given as goal

abbrev pub invariant-loop-end : goal.invariant-loop-end
invariant-loop-end l = Lacks 10 (between l.bytes l.at l.end)
