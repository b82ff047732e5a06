use Rattle.std.proofs.Common.{◌+◌, arith}
use Rattle.java_lex.specs.Segments.{class_at}
use Rattle.java_lex.proofs.TypeLaws.{dotted_on, dotted_off}
use Rattle.java_lex.proofs.TypeSteps.{told_named}
use Rattle.java_lex.proofs.type_ends.dotted_end.Goals as goal
use Rattle.java_lex.proofs.type_ends.dotted_end.Goals.{else-class_at-eq-DOT-via-then-class_at-eq-DOT+else-class_at-eq-ID, else-class_at-eq-DOT-via-else-class_at-eq-DOT}

pub returns-then-class_at-eq-ID : goal.returns-then-class_at-eq-ID
returns-then-class_at-eq-ID c =
    dotted_on (class_at c.args.leaves.now) c.args.at _ (omega arith) (omega arith)
    (told_named (class_at c.args.leaves.now) c.args.from c.args.types.now c.requires.known (c.args.at + 2) c.types_at.result (omega arith) c.types_at.ensures)

pub returns-else-class_at-eq-DOT : goal.returns-else-class_at-eq-DOT
returns-else-class_at-eq-DOT c =
    elim c.else-class_at-eq-DOT.branch [
      | else-class_at-eq-DOT-via-then-class_at-eq-DOT+else-class_at-eq-ID w ↦ dotted_off (class_at c.args.leaves.now) c.args.at _ (λ h g. omega arith) c.dims_end.ensures
      | else-class_at-eq-DOT-via-else-class_at-eq-DOT w ↦ dotted_off (class_at c.args.leaves.now) c.args.at _ (λ h g. omega arith) c.dims_end.ensures
    ]
