use Rattle.std.proofs.Common.{◌<◌, length, ℕ}
use Rattle.rw_grammar.specs.Parts.{rule_of}
use Rattle.rw_grammar.specs.Faults.{HasFault}
use Rattle.rw_grammar.specs.Cells.{rules_at}
use Rattle.rw_grammar.proofs.faults.least_fault.Given as goal

abbrev pub invariant-loop-i : goal.invariant-loop-i
invariant-loop-i l = (k s : ℕ) → s < l.i → HasFault (rule_of (rules_at l.cells l.roots)) (length l.roots) k s → ⊥
