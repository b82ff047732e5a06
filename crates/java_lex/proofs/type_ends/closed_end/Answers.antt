use Rattle.std.proofs.Common.{◌+◌, arith}
use Rattle.java_lex.specs.Segments.{class_at}
use Rattle.java_lex.proofs.TypeLaws.{closed_end}
use Rattle.java_lex.proofs.TypeSteps.{told_listed, closed_told}
use Rattle.java_lex.proofs.type_ends.closed_end.Goals as goal

pub returns-in-66 : goal.returns-in-66
returns-in-66 c = closed_end (class_at c.args.leaves.now) c.args.at (omega (arith, c.in-66.is))

pub returns-in-60 : goal.returns-in-60
returns-in-60 c =
    closed_told (class_at c.args.leaves.now) c.args.from c.args.types.now c.requires.known c.args.at c.types_at.result.listed (omega (arith, c.in-60.is))
    (told_listed (class_at c.args.leaves.now) c.args.from c.args.types.now c.requires.known (c.args.at + 1) c.types_at.result (omega arith) c.types_at.ensures)
