use Rattle.std.proofs.Common.{◌≡◌, ◌+◌, drop}
use Rattle.properties_tree.specs.Cutting.{line_size}
use Rattle.properties_tree.proofs.pieces.plain_line_length.Given as goal

abbrev pub invariant-loop-i : goal.invariant-loop-i
invariant-loop-i l = line_size l.text ≡ l.i + line_size (drop l.i l.text)
