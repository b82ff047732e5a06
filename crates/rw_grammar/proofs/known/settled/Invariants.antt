use Rattle.std.proofs.Common.{◌≡◌, length}
use Rattle.rw_grammar.specs.Parts.{rule_of}
use Rattle.rw_grammar.specs.Cells.{AreRight, rules_at}
use Rattle.rw_grammar.proofs.known.settled.Given as goal

abbrev pub invariant-loop : goal.invariant-loop
invariant-loop l = record {
  long : length l.known.items ≡ length l.cells;
  right : AreRight l.cells (rule_of (rules_at l.cells l.roots)) l.asked l.known.items;
}
