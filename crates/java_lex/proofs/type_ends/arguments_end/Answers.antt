use Rattle.std.proofs.Common.{◌+◌, arith}
use Rattle.java_lex.specs.Segments.{class_at}
use Rattle.java_lex.proofs.TypeLaws.{arguments_empty}
use Rattle.java_lex.proofs.TypeSteps.{told_listed, arguments_told}
use Rattle.java_lex.proofs.type_ends.arguments_end.Goals as goal

pub returns-then-class_at-eq-GREATER : goal.returns-then-class_at-eq-GREATER
returns-then-class_at-eq-GREATER c = arguments_empty (class_at c.args.leaves.now) c.args.at (omega arith) (omega arith)

pub returns : goal.returns
returns c =
    arguments_told (class_at c.args.leaves.now) c.args.from c.args.types.now c.requires.known c.args.at c.types_at.result.listed (omega arith) (omega arith)
    (told_listed (class_at c.args.leaves.now) c.args.from c.args.types.now c.requires.known (c.args.at + 1) c.types_at.result (omega arith) c.types_at.ensures)
