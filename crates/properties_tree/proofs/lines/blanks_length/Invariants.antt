use Rattle.std.proofs.Common.{◌≡◌, ◌+◌, drop, length}
use Rattle.properties_tree.specs.Lines.{leading_blanks}
use Rattle.properties_tree.proofs.lines.blanks_length.Given as goal

abbrev pub invariant-loop-i : goal.invariant-loop-i
invariant-loop-i l = length (leading_blanks l.text) ≡ l.i + length (leading_blanks (drop l.i l.text))
