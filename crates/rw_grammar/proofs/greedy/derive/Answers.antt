use Rattle.std.proofs.Common.{List, ap, subst}
use Rattle.std.specs.Prelude.{Err}
use Rattle.rw_base.specs.declared.tree.Leaf.{Leaf}
use Rattle.rw_grammar.specs.Results.{Stops}
use Rattle.rw_grammar.proofs.greedy.derive.Goals as goal

pub returns-in-Err-clause-stop : goal.returns-in-Err-clause-stop
returns-in-Err-clause-stop c leaf h =
    subst (λ (ls : List Leaf). Stops c.args.table.now c.args.start ls leaf) c.as_slice.ensures.value (c.in-Err.ensures.stop leaf (ap Err (cc)))
