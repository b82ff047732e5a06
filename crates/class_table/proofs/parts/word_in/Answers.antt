use Rattle.std.proofs.Common.{◌≡◌, ◌∙◌, sym, ap, length}
use Rattle.rw_base.specs.declared.tree.Leaf.{Leaf}
use Rattle.rw_base.specs.PartLaws.{below_next}
use Rattle.class_table.specs.Finding.{word_in}
use Rattle.class_table.proofs.Steps.{at_start, at_leaf, at_node, at_end, when, unless}
use Rattle.class_table.proofs.parts.word_in.Goals as goal
use Rattle.class_table.proofs.parts.word_in.Goals.{in-Node, in-Leaf+else-leaf-class}

pub loop-part-init : goal.loop-part-init
loop-part-init c = record {
  same = λ b. ap (word_in c.args.class) (at_start c.args.tree.now b c.args.n.0 _ c.parts-parts.ensures.kids);
  below = c.parts-parts.ensures.below;
}

pub returns-then-leaf-class-clause-word : goal.returns-then-leaf-class-clause-word
returns-then-leaf-class-clause-word c = λ b.
    sym (c.loop-part.invariant.same b
    ∙ (ap (word_in c.args.class)
    (at_leaf c.args.tree.now b c.parts-parts.result.now c.loop-part.part-index _ c.in-Leaf.i c.loop-part-test.true
    c.in-Leaf.is)
    ∙ when _ _ _ _ (ap (λ (l : Leaf). l.class) (sym c.leaf.ensures.leaf) ∙ c.if-leaf-class.true)))

pub loop-part-preserved : goal.loop-part-preserved
loop-part-preserved c =
    let t = c.args.tree.now in
    let ps = c.parts-parts.result.now in
    let k = c.loop-part.part-index in
    let lt = c.loop-part-test.true in
    let below = below_next (length t.leaves) c.args.n.0 ps k c.loop-part.invariant.below lt in
    elim c.match-part.branch [
      | in-Node w ↦ record {
        same = λ b. c.loop-part.invariant.same b ∙ ap (word_in c.args.class) (at_node t b ps k _ _ lt w.in-Node.is);
        below = below;
      }
      | in-Leaf+else-leaf-class w ↦ record {
        same = λ b. c.loop-part.invariant.same b
            ∙ (ap (word_in c.args.class) (at_leaf t b ps k _ w.in-Leaf.i lt w.in-Leaf.is)
            ∙ unless _ _ _ _ (λ e. w.if-leaf-class.false (ap (λ (l : Leaf). l.class) w.leaf.ensures.leaf ∙ e)));
        below = below;
      }
    ]

pub returns-clause-word : goal.returns-clause-word
returns-clause-word c = λ b.
    sym (c.loop-part.invariant.same b
    ∙ ap (word_in c.args.class)
    (at_end c.args.tree.now b c.parts-parts.result.now c.loop-part.part-index c.loop-part-test.false))
