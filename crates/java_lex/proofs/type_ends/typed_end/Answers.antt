use Rattle.std.proofs.Common.{◌+◌, arith}
use Rattle.java_lex.specs.Segments.{class_at}
use Rattle.java_lex.proofs.TypeLaws.{typed_prim, typed_name}
use Rattle.java_lex.proofs.TypeSteps.{told_dims, told_named}
use Rattle.java_lex.proofs.type_ends.typed_end.Goals as goal

pub returns-in-44 : goal.returns-in-44
returns-in-44 c =
    typed_prim (class_at c.args.leaves.now) c.args.at _ (omega (arith, c.in-44.is))
    (told_dims (class_at c.args.leaves.now) c.args.from c.args.types.now c.requires.known (c.args.at + 1) c.types_at.result (omega arith) c.types_at.ensures)

pub returns-in-1 : goal.returns-in-1
returns-in-1 c =
    typed_name (class_at c.args.leaves.now) c.args.at _ (omega (arith, c.in-1.is))
    (told_named (class_at c.args.leaves.now) c.args.from c.args.types.now c.requires.known (c.args.at + 1) c.types_at-in-1.result (omega arith) c.types_at-in-1.ensures)
