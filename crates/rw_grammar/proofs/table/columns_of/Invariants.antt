use Rattle.std.proofs.Common.{◌≡◌, ◌<◌, length, ℕ}
use Rattle.rw_grammar.specs.Parts.{rule_of}
use Rattle.rw_grammar.specs.Begins.{CanBegin}
use Rattle.rw_grammar.specs.Cells.{Tells, column_at, rules_at}
use Rattle.rw_grammar.proofs.table.columns_of.Given as goal

abbrev pub invariant-loop-class : goal.invariant-loop-class
invariant-loop-class l = record {
  long : length l.columns.items ≡ l.class;
  told : (c : ℕ) → c < l.class → Tells l.cells (CanBegin (rule_of (rules_at l.cells l.roots)) c) (column_at l.columns.items c);
}
