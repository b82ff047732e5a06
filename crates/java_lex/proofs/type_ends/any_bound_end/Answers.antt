use Rattle.java_lex.specs.Segments.{class_at}
use Rattle.java_lex.proofs.TypeLaws.{argument_any_on, argument_any_off}
use Rattle.java_lex.proofs.type_ends.any_bound_end.Goals as goal

pub returns-in-Some : goal.returns-in-Some
returns-in-Some c = argument_any_on (class_at c.args.leaves.now) c.args.at c.in-Some.end c.requires.any c.requires.second c.in-Some.ensures

pub returns-in-None : goal.returns-in-None
returns-in-None c = argument_any_off (class_at c.args.leaves.now) c.args.at c.requires.any (λ _. c.in-None.ensures)
