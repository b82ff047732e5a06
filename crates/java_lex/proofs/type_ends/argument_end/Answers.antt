use Rattle.std.proofs.Common.{arith}
use Rattle.java_lex.specs.Segments.{class_at}
use Rattle.java_lex.proofs.TypeSteps.{argument_told}
use Rattle.java_lex.proofs.type_ends.argument_end.Goals as goal
use Rattle.java_lex.proofs.type_ends.argument_end.Goals.{else-first-eq-ID-via-then-first-eq-ID+else-second-eq-EXTENDS, else-first-eq-ID-via-else-first-eq-ID}

pub returns : goal.returns
returns c =
    elim c.else-first-eq-ID.branch [
      | else-first-eq-ID-via-then-first-eq-ID+else-second-eq-EXTENDS w ↦ argument_told (class_at c.args.leaves.now) c.args.from c.args.types.now c.requires.known c.args.at c.typed_end.result (omega arith) (λ h g. absurd (omega (arith, h, g))) c.typed_end.ensures
      | else-first-eq-ID-via-else-first-eq-ID w ↦ argument_told (class_at c.args.leaves.now) c.args.from c.args.types.now c.requires.known c.args.at c.typed_end.result (omega arith) (λ h g. absurd (omega (arith, h, g))) c.typed_end.ensures
    ]
