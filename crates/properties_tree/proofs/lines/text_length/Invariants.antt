use Rattle.std.proofs.Common.{◌≡◌, ◌+◌, drop}
use Rattle.properties_tree.specs.Sizes.{text_length}
use Rattle.properties_tree.proofs.lines.text_length.Given as goal

abbrev pub invariant-loop-i : goal.invariant-loop-i
invariant-loop-i l = text_length l.text ≡ l.i + text_length (drop l.i l.text)
