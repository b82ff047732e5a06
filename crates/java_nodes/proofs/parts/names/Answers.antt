use Rattle.std.proofs.Common.{◌∙◌, sym, ap, length, append-nil, append_assoc, List, ℕ, ◌++◌, ◌∷◌, []}
use Rattle.rw_base.specs.declared.tree.Leaf.{Leaf}
use Rattle.rw_base.specs.PartLaws.{below_next}
use Rattle.java_nodes.specs.Directly.{is_name}
use Rattle.java_nodes.proofs.Onward.{names_name, names_other, names_node, names_none}
use Rattle.java_nodes.proofs.parts.names.Goals as goal
use Rattle.java_nodes.proofs.parts.names.Goals.{in-Leaf+then-is_name+in_ok-push-in-Leaf, in-Leaf+else-is_name, in-Node}

pub loop-part-preserved : goal.loop-part-preserved
loop-part-preserved c =
    let t = c.args.tree.now in
    let ps = c.args.parts.now in
    let k = c.loop-part.part-index in
    let lt = c.loop-part-test.true in
    let names = c.loop-part.names in
    let behind = λ (xs : List ℕ). names ++ xs in
    let below = below_next (length t.leaves) (length t.nodes) ps k c.loop-part.invariant.below lt in
    elim c.match-part.branch [
      | in-Leaf+then-is_name+in_ok-push-in-Leaf w ↦ record {
        same = rw (w.names-is ∙ w.in_ok-push-in-Leaf.ensures.ok) (c.loop-part.invariant.same
            ∙ (ap behind (names_name t.nodes ps k _ t.leaves w.in-Leaf.i lt w.in-Leaf.is
            (ap (λ (l : Leaf). is_name l.class) (sym w.leaf.ensures.leaf)
            ∙ (sym w.is_name.ensures ∙ w.if-is_name.true)))
            ∙ sym (append_assoc names (w.in-Leaf.i ∷ []) _)));
        below = below;
      }
      | in-Leaf+else-is_name w ↦ record {
        same = rw w.names-is (c.loop-part.invariant.same
            ∙ ap behind (names_other t.nodes ps k _ t.leaves w.in-Leaf.i lt w.in-Leaf.is
            (ap (λ (l : Leaf). is_name l.class) (sym w.leaf.ensures.leaf)
            ∙ (sym w.is_name.ensures ∙ w.if-is_name.false))));
        below = below;
      }
      | in-Node w ↦ record {
        same = rw w.names-is (c.loop-part.invariant.same
            ∙ ap behind (names_node t.nodes ps k _ t.leaves _ lt w.in-Node.is));
        below = below;
      }
    ]

pub returns : goal.returns
returns c = sym (c.loop-part.invariant.same
    ∙ (ap (λ xs. c.loop-part.names ++ xs)
    (names_none c.args.tree.now.leaves c.args.tree.now.nodes c.args.parts.now c.loop-part.part-index
    c.loop-part-test.false)
    ∙ append-nil c.loop-part.names))
