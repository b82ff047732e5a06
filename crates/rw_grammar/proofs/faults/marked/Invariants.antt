use Rattle.std.proofs.Common.{◌≡◌, ◌<◌, length, ℕ, true}
use Rattle.std.specs.Prelude.{◌↔◌}
use Rattle.rw_grammar.specs.Parts.{rule_of}
use Rattle.rw_grammar.specs.Cells.{Somewhere, bit, rules_at, shape_at}
use Rattle.rw_grammar.proofs.faults.marked.Given as goal

abbrev pub invariant-loop-cell : goal.invariant-loop-cell
invariant-loop-cell l = record {
  long : length l.marks.items ≡ l.cell-index;
  told : (n : ℕ) → n < l.cell-index → (bit l.marks.items n ≡ true) ↔ Somewhere (rule_of (rules_at l.cells l.roots)) (length l.roots) l.number (shape_at l.cells n);
}
