use Rattle.std.proofs.Common.{◌+◌, subst, arith}
use Rattle.java_lex.specs.Segments.{class_at}
use Rattle.java_lex.specs.Types.{typed, bounds}
use Rattle.java_lex.specs.KnownTypes.{ToldArgument}
use Rattle.java_lex.proofs.TypeLaws.{rises, bounds_on, bounds_off}
use Rattle.java_lex.proofs.TypeSteps.{told_bounds}
use Rattle.java_lex.proofs.type_ends.bounds_end.Goals as goal

pub returns-then-class_at-ne-AND : goal.returns-then-class_at-ne-AND
returns-then-class_at-ne-AND c = bounds_off (class_at c.args.leaves.now) c.args.at c.in-Some.end c.in-Some.ensures (λ h. absurd (omega (arith, h)))

pub returns-in-Some-bounds : goal.returns-in-Some-bounds
returns-in-Some-bounds c =
    bounds_on (class_at c.args.leaves.now) c.args.at c.in-Some.end c.in-Some-bounds.last c.in-Some.ensures (omega arith)
    (subst (ToldArgument (class_at c.args.leaves.now) bounds (c.in-Some.end + 1)) c.in-Some-bounds.is (told_bounds (class_at c.args.leaves.now) c.args.from c.args.types.now c.requires.known (c.in-Some.end + 1) c.types_at.result (omega (arith, rises (class_at c.args.leaves.now) typed c.args.at c.in-Some.end c.in-Some.ensures.is)) c.types_at.ensures))

pub returns-in-None-bounds : goal.returns-in-None-bounds
returns-in-None-bounds c =
    bounds_off (class_at c.args.leaves.now) c.args.at c.in-Some.end c.in-Some.ensures
    (λ _. subst (ToldArgument (class_at c.args.leaves.now) bounds (c.in-Some.end + 1)) c.in-None-bounds.is (told_bounds (class_at c.args.leaves.now) c.args.from c.args.types.now c.requires.known (c.in-Some.end + 1) c.types_at.result (omega (arith, rises (class_at c.args.leaves.now) typed c.args.at c.in-Some.end c.in-Some.ensures.is)) c.types_at.ensures))
