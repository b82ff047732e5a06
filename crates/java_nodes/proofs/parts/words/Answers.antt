use Rattle.std.proofs.Common.{◌∙◌, sym, ap, length, append-nil, append_assoc, ◌++◌, ◌∷◌}
use Rattle.rw_base.specs.declared.tree.Leaf.{Leaf}
use Rattle.rw_base.specs.PartLaws.{below_next}
use Rattle.java_nodes.proofs.Onward.{words_leaf, words_node, words_none}
use Rattle.java_nodes.proofs.parts.words.Goals as goal
use Rattle.java_nodes.proofs.parts.words.Goals.{in-Leaf+in_ok-push-in-Leaf, in-Node}

pub loop-part-preserved : goal.loop-part-preserved
loop-part-preserved c =
    let t = c.args.tree.now in
    let ps = c.args.parts.now in
    let k = c.loop-part.part-index in
    let lt = c.loop-part-test.true in
    let words = c.loop-part.words in
    let below = below_next (length t.leaves) (length t.nodes) ps k c.loop-part.invariant.below lt in
    elim c.match-part.branch [
      | in-Leaf+in_ok-push-in-Leaf w ↦ record {
        same = rw (w.words-is ∙ w.in_ok-push-in-Leaf.ensures.ok) (c.loop-part.invariant.same
            ∙ (ap (λ xs. words ++ xs) (words_leaf t.nodes ps k _ t.leaves w.in-Leaf.i lt w.in-Leaf.is
            ∙ ap (λ (l : Leaf). l.class ∷ _) (sym w.leaf.ensures.leaf))
            ∙ sym (append_assoc words _ _)));
        below = below;
      }
      | in-Node w ↦ record {
        same = rw w.words-is (c.loop-part.invariant.same
            ∙ ap (λ xs. words ++ xs) (words_node t.nodes ps k _ t.leaves _ lt w.in-Node.is));
        below = below;
      }
    ]

pub returns : goal.returns
returns c = sym (c.loop-part.invariant.same
    ∙ (ap (λ xs. c.loop-part.words ++ xs)
    (words_none c.args.tree.now.leaves c.args.tree.now.nodes c.args.parts.now c.loop-part.part-index
    c.loop-part-test.false)
    ∙ append-nil c.loop-part.words))
