use Rattle.std.proofs.Common.{ap}
use Rattle.rw_base.specs.declared.tree.Leaf.{Leaf}
use Rattle.rw_base.specs.Laid.{kids_of}
use Rattle.rw_grammar.specs.Results.{class_in}
use Rattle.yaml_tree.proofs.EntrySteps.{scalar_here, scalar_other}
use Rattle.yaml_tree.proofs.entry.scalar_part.Goals as goal

pub returns-then-leaf-eq-FSCALAR-clause-scalar : goal.returns-then-leaf-eq-FSCALAR-clause-scalar
returns-then-leaf-eq-FSCALAR-clause-scalar c =
    scalar_here (class_in c.args.tree.now.leaves) (kids_of c.args.tree.now.nodes c.args.n.0) c.in-Some.i
    c.leaf.result.class
    c.in-Some.ensures.leaf (ap (λ (l : Leaf). l.class) c.leaf.ensures.leaf) c.if-leaf-eq-FSCALAR.true

pub returns-else-leaf-eq-FSCALAR-clause-scalar : goal.returns-else-leaf-eq-FSCALAR-clause-scalar
returns-else-leaf-eq-FSCALAR-clause-scalar c =
    scalar_other (class_in c.args.tree.now.leaves) (kids_of c.args.tree.now.nodes c.args.n.0) c.in-Some.i
    c.leaf.result.class
    c.in-Some.ensures.leaf (ap (λ (l : Leaf). l.class) c.leaf.ensures.leaf) c.if-leaf-eq-FSCALAR.false
