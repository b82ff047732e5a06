use Rattle.std.proofs.Common.{◌≡◌, ◌∙◌, sym, ap, length, if◌then◌else◌}
use Rattle.rw_base.specs.Arena.{kind_of}
use Rattle.rw_base.specs.PartLaws.{below_next}
use Rattle.class_table.specs.Words.{parts_at}
use Rattle.class_table.specs.Finding.{type_in, is_type}
use Rattle.class_table.proofs.Steps.{at_start, at_leaf, at_node, at_end, when, unless, choose, otherwise}
use Rattle.class_table.proofs.parts.type_in.Goals as goal
use Rattle.class_table.proofs.parts.type_in.Goals.{in-Leaf, in-Node+else-is_type}

pub loop-part-init : goal.loop-part-init
loop-part-init c = record {
  same = λ b. ap type_in (at_start c.args.tree.now b c.args.n.0 _ c.parts-parts.ensures.kids);
  below = c.parts-parts.ensures.below;
}

pub returns-then-is_type-clause-node : goal.returns-then-is_type-clause-node
returns-then-is_type-clause-node c = λ b.
    sym (c.loop-part.invariant.same b
    ∙ (ap type_in
    (at_node c.args.tree.now b c.parts-parts.result.now c.loop-part.part-index _ c.in-Node.m c.loop-part-test.true
    c.in-Node.is)
    ∙ choose _ _ (ap is_type (sym c.kind.ensures) ∙ (sym c.is_type.ensures ∙ c.if-is_type.true))))

pub loop-part-preserved : goal.loop-part-preserved
loop-part-preserved c =
    let t = c.args.tree.now in
    let ps = c.parts-parts.result.now in
    let k = c.loop-part.part-index in
    let lt = c.loop-part-test.true in
    let below = below_next (length t.leaves) c.args.n.0 ps k c.loop-part.invariant.below lt in
    elim c.match-part.branch [
      | in-Leaf w ↦ record {
        same = λ b. c.loop-part.invariant.same b ∙ ap type_in (at_leaf t b ps k _ _ lt w.in-Leaf.is);
        below = below;
      }
      | in-Node+else-is_type w ↦ record {
        same = λ b. c.loop-part.invariant.same b
            ∙ (ap type_in (at_node t b ps k _ w.in-Node.m lt w.in-Node.is)
            ∙ otherwise _ _ (ap is_type (sym w.kind.ensures) ∙ (sym w.is_type.ensures ∙ w.if-is_type.false)));
        below = below;
      }
    ]

pub returns-clause-node : goal.returns-clause-node
returns-clause-node c = λ b.
    sym (c.loop-part.invariant.same b
    ∙ ap type_in
    (at_end c.args.tree.now b c.parts-parts.result.now c.loop-part.part-index c.loop-part-test.false))
