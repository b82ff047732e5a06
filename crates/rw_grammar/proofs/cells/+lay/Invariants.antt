use Rattle.std.proofs.Common.{◌≡◌, ◌≤◌, length, take, drop}
use Rattle.std.specs.Prelude.{map}
use Rattle.rw_grammar.specs.Shapes.{before, in_row, shape_parts}
use Rattle.rw_grammar.specs.Parts.{end}
use Rattle.rw_grammar.specs.Cells.{Lays, shape_at, AllBelow}
use Rattle.rw_grammar.proofs.cells.+lay.Given as goal

abbrev pub decreases-lay : goal.decreases-lay
decreases-lay l = goal.size-lay l

abbrev pub decreases-loop-i : goal.decreases-loop-i
decreases-loop-i l = l.i

abbrev pub invariant-loop-i : goal.invariant-loop-i
invariant-loop-i l = record {
  within : l.i ≤ length l.parts;
  ends : shape_at l.cells.items 0 ≡ end;
  lays : Lays l.fn.cells.items l.cells.items l.first (in_row (map before (drop l.i l.parts)) (shape_at l.fn.cells.items l.next));
}

abbrev pub invariant-loop-part : goal.invariant-loop-part
invariant-loop-part l = record {
  below : AllBelow (length l.cells.items) l.alternatives.items;
  lays : Lays l.fn.cells.items l.cells.items 0 end;
  parts : map (shape_at l.cells.items) l.alternatives.items ≡ map shape_parts (take l.part-index l.part-items);
}
