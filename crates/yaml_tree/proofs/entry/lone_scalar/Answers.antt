use Rattle.std.proofs.Common.{sym, ◌∙◌}
use Rattle.rw_base.specs.Laid.{kids_of}
use Rattle.rw_grammar.specs.Results.{class_in}
use Rattle.yaml_tree.proofs.EntrySteps.{lone_none, lone_here, lone_other}
use Rattle.yaml_tree.proofs.entry.lone_scalar.Goals as goal

pub returns-in-None-clause-scalar : goal.returns-in-None-clause-scalar
returns-in-None-clause-scalar c =
    lone_none (class_in c.args.tree.now.leaves) (kids_of c.args.tree.now.nodes c.args.n.0) c.in-None.ensures.node

pub returns-then-kind-eq-FCONTENT-clause-scalar : goal.returns-then-kind-eq-FCONTENT-clause-scalar
returns-then-kind-eq-FCONTENT-clause-scalar c =
    c.scalar_part.ensures.scalar
    ∙ lone_here (class_in c.args.tree.now.leaves) (kids_of c.args.tree.now.nodes c.args.n.0) _ _ _ _
    c.in-Some.ensures.trees
    (sym c.kind.ensures ∙ c.if-kind-eq-FCONTENT.true)

pub returns-else-kind-eq-FCONTENT-clause-scalar : goal.returns-else-kind-eq-FCONTENT-clause-scalar
returns-else-kind-eq-FCONTENT-clause-scalar c =
    lone_other (class_in c.args.tree.now.leaves) (kids_of c.args.tree.now.nodes c.args.n.0) _ _ _ _
    c.in-Some.ensures.trees
    (λ q. c.if-kind-eq-FCONTENT.false (c.kind.ensures ∙ q))
