use Rattle.std.proofs.Common.{◌≡◌, ◌<◌, length, take}
use Rattle.std.specs.Prelude.{map}
use Rattle.rw_grammar.specs.Shapes.{shape_parts}
use Rattle.rw_grammar.specs.Parts.{end}
use Rattle.rw_grammar.specs.Cells.{AreCells, shape_at, AllBelow}
use Rattle.rw_grammar.proofs.cells.lay_all.Given as goal

abbrev pub invariant-loop-rule : goal.invariant-loop-rule
invariant-loop-rule l = record {
  some : 0 < length l.cells.items;
  named : AreCells l.cells.items;
  ends : shape_at l.cells.items 0 ≡ end;
  below : AllBelow (length l.cells.items) l.roots.items;
  rules : map (shape_at l.cells.items) l.roots.items ≡ map shape_parts (take l.rule-index l.rules);
}
