use Rattle.std.proofs.Common.{◌++◌, ◌∙◌, ap, length}
use Rattle.rw_base.specs.Arena.{kind_of}
use Rattle.rw_base.specs.Laid.{kids_of}
use Rattle.rw_base.specs.PartLaws.{below_next}
use Rattle.rw_grammar.specs.Results.{class_in}
use Rattle.yaml_tree.specs.Entries.{own_entry, is_flow_mapping, entries_in}
use Rattle.yaml_tree.proofs.EntrySteps.{entries_leaf, entries_node, entries_end, entries_both}
use Rattle.yaml_tree.proofs.entry.+entries.Goals as goal
use Rattle.yaml_tree.proofs.entry.+entries.Goals.{push_below-in-Leaf, push_below-in-Node+in_ok-push_node-in-Node}

pub push_below-loop-part-preserved : goal.push_below-loop-part-preserved
push_below-loop-part-preserved t c =
    let cl = class_in c.args.tree.now.leaves in
    let b = c.is_flow_mapping-in_mapping.result in
    let rows = c.args.tree.now.nodes in
    let ps = c.parts-parts.result.now in
    let k = c.loop-part.part-index in
    let all = c.args.out.now.items ++ entries_in cl b (kids_of rows c.args.n.0) in
    let below = below_next (length c.args.tree.now.leaves) c.args.n.0 ps k c.loop-part.invariant.below
    c.loop-part-test.true in
    elim c.match-part.branch [
      | push_below-in-Leaf w ↦ record {
        same = rw w.out-is (entries_leaf cl b rows ps all c.loop-part.out.items k _ c.loop-part-test.true _
            w.in-Leaf.is c.loop-part.invariant.same);
        below = below;
      }
      | push_below-in-Node+in_ok-push_node-in-Node w ↦ record {
        same = rw w.out-is (entries_node cl b rows ps all c.loop-part.out.items k _ c.loop-part-test.true _ _
            w.in-Node.is w.in_ok-push_node-in-Node.ensures c.loop-part.invariant.same);
        below = below;
      }
    ]

pub push_below-returns : goal.push_below-returns
push_below-returns t c =
    let cl = class_in c.args.tree.now.leaves in
    let rows = c.args.tree.now.nodes in
    let b = c.is_flow_mapping-in_mapping.result in
    entries_end cl b rows c.parts-parts.result.now
    (c.args.out.now.items ++ entries_in cl b (kids_of rows c.args.n.0)) c.loop-part.out.items
    c.loop-part.part-index c.loop-part-test.false c.loop-part.invariant.same
    ∙ ap (λ x. c.args.out.now.items ++ entries_in cl x (kids_of rows c.args.n.0)) c.is_flow_mapping-in_mapping.ensures

pub push_node-returns : goal.push_node-returns
push_node-returns t c =
    let cl = class_in c.args.tree.now.leaves in
    let rows = c.args.tree.now.nodes in
    let m = c.args.m.0 in
    entries_both c.args.out.now.items c.push_entry.new.out.items c.push_below.new.out.items
    (own_entry cl c.args.in_mapping m (kind_of rows m) (kids_of rows m))
    (entries_in cl (is_flow_mapping cl (kind_of rows m) (kids_of rows m)) (kids_of rows m))
    (c.in_ok-push_entry.ensures ∙ ap (λ x. c.args.out.now.items ++ x) c.own_entry.ensures.entry)
    c.in_ok-push_below.ensures
