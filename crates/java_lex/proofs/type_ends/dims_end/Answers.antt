use Rattle.std.proofs.Common.{◌+◌, arith}
use Rattle.java_lex.specs.Segments.{class_at}
use Rattle.java_lex.proofs.TypeLaws.{dims_on, dims_off}
use Rattle.java_lex.proofs.TypeSteps.{told_dims}
use Rattle.java_lex.proofs.type_ends.dims_end.Goals as goal
use Rattle.java_lex.proofs.type_ends.dims_end.Goals.{else-class_at-eq-BRACKET_OPEN-via-then-class_at-eq-BRACKET_OPEN+else-class_at-eq-BRACKET_CLOSE, else-class_at-eq-BRACKET_OPEN-via-else-class_at-eq-BRACKET_OPEN}

pub returns-then-class_at-eq-BRACKET_CLOSE : goal.returns-then-class_at-eq-BRACKET_CLOSE
returns-then-class_at-eq-BRACKET_CLOSE c =
    dims_on (class_at c.args.leaves.now) c.args.at _ (omega arith) (omega arith)
    (told_dims (class_at c.args.leaves.now) c.args.from c.args.types.now c.requires.known (c.args.at + 2) c.types_at.result (omega arith) c.types_at.ensures)

pub returns-else-class_at-eq-BRACKET_OPEN : goal.returns-else-class_at-eq-BRACKET_OPEN
returns-else-class_at-eq-BRACKET_OPEN c =
    elim c.else-class_at-eq-BRACKET_OPEN.branch [
      | else-class_at-eq-BRACKET_OPEN-via-then-class_at-eq-BRACKET_OPEN+else-class_at-eq-BRACKET_CLOSE w ↦ dims_off (class_at c.args.leaves.now) c.args.at (λ h g. omega arith)
      | else-class_at-eq-BRACKET_OPEN-via-else-class_at-eq-BRACKET_OPEN w ↦ dims_off (class_at c.args.leaves.now) c.args.at (λ h g. omega arith)
    ]
