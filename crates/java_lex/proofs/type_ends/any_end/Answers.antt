use Rattle.std.proofs.Common.{◌+◌, inl, inr, arith}
use Rattle.java_lex.specs.Segments.{class_at}
use Rattle.java_lex.proofs.TypeLaws.{argument_any_off}
use Rattle.java_lex.proofs.TypeSteps.{none_of}
use Rattle.java_lex.proofs.type_ends.any_end.Goals as goal

pub any_bound_end-requires-clause-second : goal.any_bound_end-requires-clause-second
any_bound_end-requires-clause-second c = inl (omega arith)

pub any_bound_end-requires-then-second-eq-SUPER-clause-second : goal.any_bound_end-requires-then-second-eq-SUPER-clause-second
any_bound_end-requires-then-second-eq-SUPER-clause-second c = inr (omega arith)

pub returns : goal.returns
returns c = argument_any_off (class_at c.args.leaves.now) c.args.at c.requires.any (λ g. none_of (class_at c.args.leaves.now (c.args.at + 1)) (omega arith) (omega arith) g)
