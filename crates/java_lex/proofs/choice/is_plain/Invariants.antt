use Rattle.std.proofs.Common.{◌-◌, ◌+◌, ◌↔◌, length}
use Rattle.java_lex.specs.Marks.{IsPlain}
use Rattle.java_lex.specs.Segments.{class_at}
use Rattle.java_lex.proofs.choice.is_plain.Given as goal

abbrev pub invariant-names : goal.invariant-names
invariant-names l = IsPlain (class_at l.leaves) l.i l.end ↔ IsPlain (class_at l.leaves) l.at l.end

abbrev pub decreases-names : goal.decreases-names
decreases-names l = length l.leaves + 2 - l.at
