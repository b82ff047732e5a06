use Rattle.std.proofs.Common.{◌≡◌, ◌+◌, ◌*◌, ◌++◌}
use Rattle.rw_base.specs.Laid.{kids_of}
use Rattle.rw_grammar.specs.Results.{class_in}
use Rattle.java_reader.specs.Calls.{calls_in, within}
use Rattle.java_reader.specs.Walking.{calls_from}
use Rattle.java_reader.proofs.call.+calls.Given as goal

abbrev pub decreases-add_calls : goal.decreases-add_calls
decreases-add_calls l = 2 * l.n.0

abbrev pub decreases-add_node : goal.decreases-add_node
decreases-add_node l = 2 * l.m.0 + 1

abbrev pub invariant-add_calls-loop-p : goal.invariant-add_calls-loop-p
invariant-add_calls-loop-p l =
    l.out.items ++ calls_from l.tree l.n.0 l.first l.past l.p
    ≡ l.fn.out.items ++ within l.first l.past (calls_in (class_in l.tree.leaves) l.n.0 0 (kids_of l.tree.nodes l.n.0))
