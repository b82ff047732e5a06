use Rattle.std.proofs.Common.{◌≡◌, ◌∙◌, ◌+◌, ◌++◌, [], ◌∷◌, sym, ap, subst, length, drop, append-nil}
use Rattle.std.specs.Prelude.{IfOk}
use Rattle.std.proofs.lemmas.Bool.{eq-eqb, ne_eqb}
use Rattle.rw_base.specs.Arena.{kind_of}
use Rattle.rw_base.specs.PartLaws.{below_next}
use Rattle.class_table.specs.Words.{trees_of, parts_at}
use Rattle.class_table.specs.Finding.{of_nodes, is_type}
use Rattle.class_table.specs.Members.{param_node}
use Rattle.class_table.proofs.Steps.{at_start, choose, otherwise}
use Rattle.class_table.proofs.Gathering.{leaf_of, node_of, end_of_nodes}
use Rattle.class_table.proofs.methods.params_in.Goals as goal
use Rattle.class_table.proofs.methods.params_in.Goals.{in-Leaf}
use Rattle.class_table.proofs.methods.params_in.Goals.{
  in-Node+then-kind-eq-PARAM+in_ok-param-in-Node+in_ok-push-in-Node,
}
use Rattle.class_table.proofs.methods.params_in.Goals.{in-Node+else-kind-eq-PARAM}

pub loop-part-init : goal.loop-part-init
loop-part-init c =
    let t = c.args.tree.now in
    let g = param_node in
    record {
      same = ap (λ x. x ++ of_nodes g (trees_of t c.args.bytes.now c.parts-parts.result.now)) c.new-out.ensures.items
          ∙ ap (of_nodes g) (sym (at_start t c.args.bytes.now c.args.n.0 _ c.parts-parts.ensures.kids));
      below = c.parts-parts.ensures.below;
    }

pub loop-part-preserved : goal.loop-part-preserved
loop-part-preserved c =
    let t = c.args.tree.now in
    let b = c.args.bytes.now in
    let ps = c.parts-parts.result.now in
    let k = c.loop-part.part-index in
    let lt = c.loop-part-test.true in
    let g = param_node in
    let old = c.loop-part.out.items in
    let same = c.loop-part.invariant.same in
    let below = below_next (length t.leaves) c.args.n.0 ps k c.loop-part.invariant.below lt in
    elim c.match-part.branch [
      | in-Leaf w ↦ record {
        same = rw w.out-is (leaf_of g t b ps k old _ same _ _ lt w.in-Leaf.is);
        below = below;
      }
      | in-Node+then-kind-eq-PARAM+in_ok-param-in-Node+in_ok-push-in-Node w ↦ record {
        same = rw w.out-is (node_of g t b ps k old _ same _ w.in-Node.m _ lt w.in-Node.is
            (w.in_ok-push-in-Node.ensures.items
            ∙ ap (λ x. old ++ x)
            (ap (λ x. x ∷ []) w.in_ok-param-in-Node.ensures
            ∙ sym (choose _ _ (eq-eqb _ _ (sym w.kind.ensures ∙ w.if-kind-eq-PARAM.true))))));
        below = below;
      }
      | in-Node+else-kind-eq-PARAM w ↦ record {
        same = rw w.out-is (node_of g t b ps k old _ same _ w.in-Node.m _ lt w.in-Node.is
            (sym (append-nil old)
            ∙ ap (λ x. old ++ x)
            (sym (otherwise _ _ (ne_eqb _ _ (λ e. w.if-kind-eq-PARAM.false (w.kind.ensures ∙ e)))))));
        below = below;
      }
    ]

pub returns : goal.returns
returns c =
    end_of_nodes (param_node) c.args.tree.now c.args.bytes.now c.parts-parts.result.now c.loop-part.part-index
    c.loop-part.out.items _ c.loop-part.invariant.same c.loop-part-test.false
