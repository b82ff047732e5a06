use Rattle.std.proofs.Common.{arith}
use Rattle.java_lex.specs.Segments.{class_at}
use Rattle.java_lex.specs.Types.{argument}
use Rattle.java_lex.proofs.TypeLaws.{rises}
use Rattle.java_lex.proofs.TypeSteps.{listed_told}
use Rattle.java_lex.proofs.type_ends.listed_end.Goals as goal

pub closed_end-requires-clause-order : goal.closed_end-requires-clause-order
closed_end-requires-clause-order c = omega (arith, rises (class_at c.args.leaves.now) argument c.args.at c.in-Some.end c.in-Some.ensures.is)

pub returns-in-Some : goal.returns-in-Some
returns-in-Some c = listed_told (class_at c.args.leaves.now) c.args.from c.args.types.now c.requires.known c.args.at c.in-Some.end c.closed_end.result c.in-Some.ensures c.closed_end.ensures
