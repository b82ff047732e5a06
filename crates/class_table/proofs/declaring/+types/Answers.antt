use Rattle.std.proofs.Common.{◌≡◌, ◌∙◌, ◌++◌, sym, ap, length}
use Rattle.rw_base.specs.PartLaws.{below_next}
use Rattle.rw_base.specs.Arena.{kind_of}
use Rattle.class_table.specs.Words.{parts_at}
use Rattle.class_table.specs.Declarations.{types_in, class_kind, holds_types}
use Rattle.class_table.proofs.Steps.{at_start}
use Rattle.class_table.proofs.TypeSteps.{types_leaf, types_node, types_end, declared_types, held_types}
use Rattle.class_table.proofs.TypeSteps.{no_types}
use Rattle.class_table.proofs.declaring.+types.Goals as goal
use Rattle.class_table.proofs.declaring.+types.Goals.{add_types-in-Leaf, add_types-in-Node+in_ok-add_node-in-Node}

pub add_types-loop-part-init : goal.add_types-loop-part-init
add_types-loop-part-init t c = record {
  same = ap (λ x. c.args.out.now.items ++ types_in c.args.around.now c.args.is_private x)
      (sym (at_start c.args.tree.now c.args.bytes.now c.args.n.0 _ c.parts-parts.ensures.kids));
  below = c.parts-parts.ensures.below;
}

pub add_types-loop-part-preserved : goal.add_types-loop-part-preserved
add_types-loop-part-preserved t c =
    let tree = c.args.tree.now in
    let b = c.args.bytes.now in
    let ps = c.parts-parts.result.now in
    let k = c.loop-part.part-index in
    let lt = c.loop-part-test.true in
    let inv = c.loop-part.invariant in
    let a = c.args.around.now in
    let p = c.args.is_private in
    let below = below_next (length tree.leaves) c.args.n.0 ps k inv.below lt in
    elim c.match-part.branch [
      | add_types-in-Leaf w ↦ record {
        same = rw w.out-is (types_leaf a p tree b ps k _ _ inv.same _ _ lt w.in-Leaf.is);
        below = below;
      }
      | add_types-in-Node+in_ok-add_node-in-Node w ↦ record {
        same = rw w.out-is (types_node a p tree b ps k _ _ inv.same _ w.in-Node.m _ lt w.in-Node.is
            w.in_ok-add_node-in-Node.ensures);
        below = below;
      }
    ]

pub add_types-returns : goal.add_types-returns
add_types-returns t c =
    types_end c.args.around.now c.args.is_private c.args.tree.now c.args.bytes.now c.parts-parts.result.now
    c.loop-part.part-index _ _ c.loop-part.invariant.same c.loop-part-test.false

pub add_node-returns-in_ok-add_types-in-Some : goal.add_node-returns-in_ok-add_types-in-Some
add_node-returns-in_ok-add_types-in-Some t c =
    let tree = c.args.tree.now in
    let b = c.args.bytes.now in
    declared_types c.args.around.now c.args.is_private (kind_of tree.nodes c.args.m.0) (parts_at tree b c.args.m.0)
    c.args.out.now.items c.private_inside-are_private.result (c.private_inside-are_private.ensures b)
    c.in-Some.kind c.in_ok-inner-in-Some.inner c.push_type.new.out.items _
    (ap class_kind (sym c.kind-form.ensures) ∙ (sym c.class_kind.ensures ∙ c.in-Some.is))
    c.in_ok-inner-in-Some.ensures.inside c.in_ok-inner-in-Some.ensures.row c.in_ok-add_types-in-Some.ensures

pub add_node-returns-then-not-holds_types : goal.add_node-returns-then-not-holds_types
add_node-returns-then-not-holds_types t c =
    let tree = c.args.tree.now in
    let b = c.args.bytes.now in
    no_types c.args.around.now c.args.is_private (kind_of tree.nodes c.args.m.0) (parts_at tree b c.args.m.0)
    c.args.out.now.items c.private_inside-are_private.result (c.private_inside-are_private.ensures b)
    (ap class_kind (sym c.kind-form.ensures) ∙ (sym c.class_kind.ensures ∙ c.in-None.is))
    (ap holds_types (sym c.kind-form.ensures) ∙ (sym c.holds_types.ensures ∙ c.if-not-holds_types.true))

pub add_node-returns-in_ok-add_types-in-None : goal.add_node-returns-in_ok-add_types-in-None
add_node-returns-in_ok-add_types-in-None t c =
    let tree = c.args.tree.now in
    let b = c.args.bytes.now in
    held_types c.args.around.now c.args.is_private (kind_of tree.nodes c.args.m.0) (parts_at tree b c.args.m.0)
    c.args.out.now.items c.private_inside-are_private.result (c.private_inside-are_private.ensures b) _
    (ap class_kind (sym c.kind-form.ensures) ∙ (sym c.class_kind.ensures ∙ c.in-None.is))
    (ap holds_types (sym c.kind-form.ensures) ∙ (sym c.holds_types.ensures ∙ c.if-not-holds_types.false))
    c.in_ok-add_types-in-None.ensures
