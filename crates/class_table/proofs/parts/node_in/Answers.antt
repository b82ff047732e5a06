use Rattle.std.proofs.Common.{◌≡◌, ◌∙◌, sym, ap, length, if◌then◌else◌}
use Rattle.rw_base.specs.Arena.{kind_of}
use Rattle.rw_base.specs.PartLaws.{below_next}
use Rattle.class_table.specs.Words.{parts_at}
use Rattle.class_table.specs.Finding.{node_in}
use Rattle.class_table.proofs.Steps.{at_start, at_leaf, at_node, at_end, when, unless, choose}
use Rattle.class_table.proofs.parts.node_in.Goals as goal
use Rattle.class_table.proofs.parts.node_in.Goals.{in-Leaf, in-Node+else-kind}

pub loop-part-init : goal.loop-part-init
loop-part-init c = record {
  same = λ b. ap (node_in c.args.kind) (at_start c.args.tree.now b c.args.n.0 _ c.parts-parts.ensures.kids);
  below = c.parts-parts.ensures.below;
}

pub returns-then-kind-clause-node : goal.returns-then-kind-clause-node
returns-then-kind-clause-node c = λ b.
    sym (c.loop-part.invariant.same b
    ∙ (ap (node_in c.args.kind)
    (at_node c.args.tree.now b c.parts-parts.result.now c.loop-part.part-index _ c.in-Node.m c.loop-part-test.true
    c.in-Node.is)
    ∙ when _ _ _ _ (sym c.kind.ensures ∙ c.if-kind.true)))

pub loop-part-preserved : goal.loop-part-preserved
loop-part-preserved c =
    let t = c.args.tree.now in
    let ps = c.parts-parts.result.now in
    let k = c.loop-part.part-index in
    let lt = c.loop-part-test.true in
    let below = below_next (length t.leaves) c.args.n.0 ps k c.loop-part.invariant.below lt in
    elim c.match-part.branch [
      | in-Leaf w ↦ record {
        same = λ b. c.loop-part.invariant.same b ∙ ap (node_in c.args.kind) (at_leaf t b ps k _ _ lt w.in-Leaf.is);
        below = below;
      }
      | in-Node+else-kind w ↦ record {
        same = λ b. c.loop-part.invariant.same b
            ∙ (ap (node_in c.args.kind) (at_node t b ps k _ w.in-Node.m lt w.in-Node.is)
            ∙ unless _ _ _ _ (λ e. w.if-kind.false (w.kind.ensures ∙ e)));
        below = below;
      }
    ]

pub returns-clause-node : goal.returns-clause-node
returns-clause-node c = λ b.
    sym (c.loop-part.invariant.same b
    ∙ ap (node_in c.args.kind)
    (at_end c.args.tree.now b c.parts-parts.result.now c.loop-part.part-index c.loop-part-test.false))
