use Rattle.std.proofs.Common.{◌≡◌, ◌<◌, ◌≤◌, ℕ}
use Rattle.rw_grammar.specs.declared.cells.Cell.TheVariants as cell
use Rattle.rw_grammar.specs.Cells.{cell_at}
use Rattle.rw_grammar.proofs.cells.class_count.Given as goal

abbrev pub invariant-loop-cell : goal.invariant-loop-cell
invariant-loop-cell l = record {
  few : l.count ≤ 65536;
  above : (n c k : ℕ) → n < l.cell-index → cell_at l.cells n ≡ cell.One c k → c < l.count;
}
