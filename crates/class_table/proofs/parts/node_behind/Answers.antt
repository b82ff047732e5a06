use Rattle.std.proofs.Common.{◌≡◌, ◌∙◌, ◌+◌, ◌==◌, false, sym, ap, length, drop}
use Rattle.rw_base.specs.declared.tree.Leaf.{Leaf}
use Rattle.rw_base.specs.PartLaws.{below_next}
use Rattle.class_table.specs.Words.{trees_of}
use Rattle.class_table.specs.Finding.{node_behind}
use Rattle.class_table.proofs.Steps.{at_start, at_leaf, at_node, at_end, choose, otherwise}
use Rattle.class_table.proofs.parts.node_behind.Goals as goal
use Rattle.class_table.proofs.parts.node_behind.Goals.{in-Leaf, in-Node+else-behind}

pub loop-part-init : goal.loop-part-init
loop-part-init c = record {
  same = λ b. ap (node_behind c.args.class false)
      (sym (at_start c.args.tree.now b c.args.n.0 _ c.parts-parts.ensures.kids));
  below = c.parts-parts.ensures.below;
}

pub returns-then-behind-clause-node : goal.returns-then-behind-clause-node
returns-then-behind-clause-node c = λ b.
    sym (ap (node_behind c.args.class c.loop-part.behind)
    (at_node c.args.tree.now b c.parts-parts.result.now c.loop-part.part-index _ c.in-Node.m c.loop-part-test.true
    c.in-Node.is)
    ∙ choose _ _ c.if-behind.true)
    ∙ c.loop-part.invariant.same b

pub loop-part-preserved : goal.loop-part-preserved
loop-part-preserved c =
    let t = c.args.tree.now in
    let ps = c.parts-parts.result.now in
    let k = c.loop-part.part-index in
    let lt = c.loop-part-test.true in
    let cl = c.args.class in
    let old = c.loop-part.behind in
    let below = below_next (length t.leaves) c.args.n.0 ps k c.loop-part.invariant.below lt in
    elim c.match-part.branch [
      | in-Leaf w ↦ record {
        same = λ b. ap (λ x. node_behind cl x (trees_of t b (drop (k + 1) ps)))
            (w.behind-is ∙ ap (λ (l : Leaf). l.class == cl) w.leaf.ensures.leaf)
            ∙ (sym (ap (node_behind cl old) (at_leaf t b ps k _ _ lt w.in-Leaf.is)) ∙ c.loop-part.invariant.same b);
        below = below;
      }
      | in-Node+else-behind w ↦ record {
        same = λ b. ap (λ x. node_behind cl x (trees_of t b (drop (k + 1) ps))) w.behind-is
            ∙ (sym (ap (node_behind cl old) (at_node t b ps k _ w.in-Node.m lt w.in-Node.is)
            ∙ otherwise _ _ w.if-behind.false)
            ∙ c.loop-part.invariant.same b);
        below = below;
      }
    ]

pub returns-clause-node : goal.returns-clause-node
returns-clause-node c = λ b.
    sym (ap (node_behind c.args.class c.loop-part.behind)
    (at_end c.args.tree.now b c.parts-parts.result.now c.loop-part.part-index c.loop-part-test.false))
    ∙ c.loop-part.invariant.same b
