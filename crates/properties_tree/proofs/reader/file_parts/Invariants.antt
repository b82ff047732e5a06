use Rattle.std.proofs.Common.{◌≡◌}
use Rattle.properties_tree.specs.Reading.{numbered_parts}
use Rattle.properties_tree.proofs.reader.file_parts.Given as goal

abbrev pub invariant-loop-n : goal.invariant-loop-n
invariant-loop-n l = l.parts.items ≡ numbered_parts 0 l.n
