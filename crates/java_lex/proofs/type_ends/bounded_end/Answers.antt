use Rattle.std.proofs.Common.{◌+◌, subst, arith}
use Rattle.java_lex.specs.Segments.{class_at}
use Rattle.java_lex.specs.Types.{bounds}
use Rattle.java_lex.specs.KnownTypes.{ToldArgument}
use Rattle.java_lex.proofs.TypeLaws.{argument_bounded}
use Rattle.java_lex.proofs.TypeSteps.{told_bounds, argument_told}
use Rattle.java_lex.proofs.type_ends.bounded_end.Goals as goal

pub returns-in-Some : goal.returns-in-Some
returns-in-Some c =
    argument_bounded (class_at c.args.leaves.now) c.args.at c.in-Some.end c.requires.id c.requires.second
    (subst (ToldArgument (class_at c.args.leaves.now) bounds (c.args.at + 2)) c.in-Some.is (told_bounds (class_at c.args.leaves.now) c.args.from c.args.types.now c.requires.known (c.args.at + 2) c.types_at.result (omega arith) c.types_at.ensures))

pub returns-in-None : goal.returns-in-None
returns-in-None c =
    argument_told (class_at c.args.leaves.now) c.args.from c.args.types.now c.requires.known c.args.at c.typed_end.result (omega arith)
    (λ _ _. subst (ToldArgument (class_at c.args.leaves.now) bounds (c.args.at + 2)) c.in-None.is (told_bounds (class_at c.args.leaves.now) c.args.from c.args.types.now c.requires.known (c.args.at + 2) c.types_at.result (omega arith) c.types_at.ensures))
    c.typed_end.ensures
