use Rattle.std.proofs.Common.{◌≡◌, ◌∙◌, ◌+◌, false, sym, ap, length, drop}
use Rattle.rw_base.specs.PartLaws.{below_next}
use Rattle.class_table.specs.Words.{trees_of}
use Rattle.class_table.specs.Members.{varargs_in}
use Rattle.class_table.proofs.Steps.{at_start, at_leaf, at_node, at_end, when, unless}
use Rattle.class_table.proofs.methods.varargs_in.Goals as goal
use Rattle.class_table.proofs.methods.varargs_in.Goals.{in-Leaf, in-Node+then-kind-eq-PARAM, in-Node+else-kind-eq-PARAM}

pub loop-part-init : goal.loop-part-init
loop-part-init c = record {
  same = λ b. ap (varargs_in false) (sym (at_start c.args.tree.now b c.args.n.0 _ c.parts-parts.ensures.kids));
  below = c.parts-parts.ensures.below;
}

pub loop-part-preserved : goal.loop-part-preserved
loop-part-preserved c =
    let t = c.args.tree.now in
    let ps = c.parts-parts.result.now in
    let k = c.loop-part.part-index in
    let lt = c.loop-part-test.true in
    let old = c.loop-part.last in
    let below = below_next (length t.leaves) c.args.n.0 ps k c.loop-part.invariant.below lt in
    elim c.match-part.branch [
      | in-Leaf w ↦ record {
        same = λ b. ap (λ x. varargs_in x (trees_of t b (drop (k + 1) ps))) w.last-is
            ∙ (sym (ap (varargs_in old) (at_leaf t b ps k _ _ lt w.in-Leaf.is)) ∙ c.loop-part.invariant.same b);
        below = below;
      }
      | in-Node+then-kind-eq-PARAM w ↦ record {
        same = λ b. ap (λ x. varargs_in x (trees_of t b (drop (k + 1) ps)))
            (w.last-is
            ∙ (w.has-last.ensures b ∙ sym (when _ _ _ _ (sym w.kind.ensures ∙ w.if-kind-eq-PARAM.true))))
            ∙ (sym (ap (varargs_in old) (at_node t b ps k _ w.in-Node.m lt w.in-Node.is))
            ∙ c.loop-part.invariant.same b);
        below = below;
      }
      | in-Node+else-kind-eq-PARAM w ↦ record {
        same = λ b. ap (λ x. varargs_in x (trees_of t b (drop (k + 1) ps)))
            (w.last-is ∙ sym (unless _ _ _ _ (λ e. w.if-kind-eq-PARAM.false (w.kind.ensures ∙ e))))
            ∙ (sym (ap (varargs_in old) (at_node t b ps k _ w.in-Node.m lt w.in-Node.is))
            ∙ c.loop-part.invariant.same b);
        below = below;
      }
    ]

pub returns : goal.returns
returns c = λ b.
    sym (ap (varargs_in c.loop-part.last)
    (at_end c.args.tree.now b c.parts-parts.result.now c.loop-part.part-index c.loop-part-test.false))
    ∙ c.loop-part.invariant.same b
