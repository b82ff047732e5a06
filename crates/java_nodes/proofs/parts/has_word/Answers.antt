use Rattle.std.proofs.Common.{◌∙◌, ap, length, drop, ◌+◌, ◌||◌}
use Rattle.std.proofs.lemmas.Bool.{ne_eqb}
use Rattle.rw_base.specs.declared.tree.Leaf.{Leaf}
use Rattle.rw_base.specs.Laid.{forest_of}
use Rattle.rw_base.specs.PartLaws.{below_next, leaf_next, node_next}
use Rattle.java_nodes.specs.Directly.{has_word}
use Rattle.java_nodes.proofs.parts.has_word.Goals as goal
use Rattle.java_nodes.proofs.parts.has_word.Goals.{in-Leaf+else-leaf-class, in-Node}

pub loop-part-preserved : goal.loop-part-preserved
loop-part-preserved c =
    let t = c.args.tree.now in
    let ps = c.args.parts.now in
    let k = c.loop-part.part-index in
    let lt = c.loop-part-test.true in
    let has = has_word c.args.class t.leaves in
    let below = below_next (length t.leaves) (length t.nodes) ps k c.loop-part.invariant.below lt in
    elim c.match-part.branch [
      | in-Leaf+else-leaf-class w ↦ record {
        same = c.loop-part.invariant.same
            ∙ (ap has (leaf_next t.nodes ps k _ w.in-Leaf.i lt w.in-Leaf.is)
            ∙ ap (λ b. b || has (forest_of t.nodes (drop (k + 1) ps))) (ne_eqb _ _ (λ e.
            w.if-leaf-class.false (ap (λ (l : Leaf). l.class) w.leaf.ensures.leaf ∙ e))));
        below = below;
      }
      | in-Node w ↦ record {
        same = c.loop-part.invariant.same ∙ ap has (node_next t.nodes ps k _ _ lt w.in-Node.is);
        below = below;
      }
    ]
