use Rattle.std.proofs.Common.{◌≡◌, ◌∙◌, ◌||◌, sym, ap, length}
use Rattle.rw_base.specs.PartLaws.{below_next}
use Rattle.class_table.specs.Members.{says}
use Rattle.class_table.specs.Words.{trees_of}
use Rattle.std.proofs.Common.{◌+◌, drop}
use Rattle.class_table.proofs.Steps.{at_start, at_leaf, at_node, at_end}
use Rattle.class_table.proofs.modifiers.says.Goals as goal
use Rattle.class_table.proofs.modifiers.says.Goals.{in-Leaf, in-Node+else-is_modifier}

pub loop-part-init : goal.loop-part-init
loop-part-init c = record {
  same = λ b. ap (says c.args.class) (at_start c.args.tree.now b c.args.n.0 _ c.parts-parts.ensures.kids);
  below = c.parts-parts.ensures.below;
}

pub returns-then-is_modifier : goal.returns-then-is_modifier
returns-then-is_modifier c = λ b.
    let t = c.args.tree.now in
    let ps = c.parts-parts.result.now in
    let k = c.loop-part.part-index in
    sym (c.loop-part.invariant.same b
    ∙ (ap (says c.args.class) (at_node t b ps k _ c.in-Node.m c.loop-part-test.true c.in-Node.is)
    ∙ ap (λ x. x || says c.args.class (trees_of t b (drop (k + 1) ps)))
    (sym (c.is_modifier.ensures b) ∙ c.if-is_modifier.true)))

pub loop-part-preserved : goal.loop-part-preserved
loop-part-preserved c =
    let t = c.args.tree.now in
    let ps = c.parts-parts.result.now in
    let k = c.loop-part.part-index in
    let lt = c.loop-part-test.true in
    let below = below_next (length t.leaves) c.args.n.0 ps k c.loop-part.invariant.below lt in
    elim c.match-part.branch [
      | in-Leaf w ↦ record {
        same = λ b. c.loop-part.invariant.same b ∙ ap (says c.args.class) (at_leaf t b ps k _ _ lt w.in-Leaf.is);
        below = below;
      }
      | in-Node+else-is_modifier w ↦ record {
        same = λ b. c.loop-part.invariant.same b
            ∙ (ap (says c.args.class) (at_node t b ps k _ w.in-Node.m lt w.in-Node.is)
            ∙ ap (λ x. x || says c.args.class (trees_of t b (drop (k + 1) ps)))
            (sym (w.is_modifier.ensures b) ∙ w.if-is_modifier.false));
        below = below;
      }
    ]

pub returns : goal.returns
returns c = λ b.
    sym (c.loop-part.invariant.same b
    ∙ ap (says c.args.class)
    (at_end c.args.tree.now b c.parts-parts.result.now c.loop-part.part-index c.loop-part-test.false))
