use Rattle.std.proofs.Common.{arith}
use Rattle.java_lex.specs.Scanning.{next_state}
use Rattle.java_lex.proofs.Runs.{column-inside, next-inside}
use Rattle.java_lex.proofs.automaton.next_state.Goals as goal

pub bounds-b-2 : goal.bounds-b-2
bounds-b-2 c = column-inside c.args.b (omega arith)

pub returns-clause-inside : goal.returns-clause-inside
unfolding next_state
returns-clause-inside c = next-inside c.args.state c.args.b (omega arith) (omega arith)
