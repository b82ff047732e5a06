use Rattle.std.proofs.Common.{arith}
use Rattle.java_lex.specs.Segments.{class_at}
use Rattle.java_lex.specs.Types.{arguments}
use Rattle.java_lex.proofs.TypeLaws.{rises, named_on, named_off}
use Rattle.java_lex.proofs.type_ends.named_end.Goals as goal

pub dotted_end-requires-clause-order : goal.dotted_end-requires-clause-order
dotted_end-requires-clause-order c = omega (arith, rises (class_at c.args.leaves.now) arguments c.args.at c.in-Some.end c.in-Some.ensures.is)

pub returns-in-Some : goal.returns-in-Some
returns-in-Some c = named_on (class_at c.args.leaves.now) c.args.at c.in-Some.end _ c.in-Some.ensures c.dotted_end.ensures

pub returns-in-None : goal.returns-in-None
returns-in-None c = named_off (class_at c.args.leaves.now) c.args.at _ c.in-None.ensures c.dotted_end-in-None.ensures
