use Rattle.std.proofs.Common.{◌≡◌, ◌<◌, ℕ, length, true, false}
use Rattle.rw_grammar.specs.Parts.{rule_of}
use Rattle.rw_grammar.specs.Cells.{AreRight, told_by, cell_at, bit, rules_at}
use Rattle.rw_grammar.proofs.known.goes_further.Given as goal

abbrev pub invariant-loop-i : goal.invariant-loop-i
invariant-loop-i l = record {
  long : length l.known ≡ length l.cells;
  right : AreRight l.cells (rule_of (rules_at l.cells l.roots)) l.asked l.known;
  closed : l.more ≡ false → (n : ℕ) → n < l.i → told_by l.roots l.empty l.asked l.known (cell_at l.cells n) ≡ true → bit l.known n ≡ true;
}
