use Rattle.std.proofs.Common.{◌≡◌, ◌∙◌, ◌++◌, sym, ap, length}
use Rattle.rw_base.specs.PartLaws.{below_next}
use Rattle.class_table.specs.Members.{fields_in, methods_in}
use Rattle.class_table.proofs.Steps.{at_start}
use Rattle.class_table.proofs.MemberSteps.{fields_leaf, fields_node, fields_end, methods_leaf, methods_node}
use Rattle.class_table.proofs.MemberSteps.{methods_end}
use Rattle.class_table.proofs.members.+members.Goals as goal
use Rattle.class_table.proofs.members.+members.Goals.{add_members-in-Leaf, add_members-in-Node+in_ok-add_node-in-Node}

pub add_members-loop-part-init : goal.add_members-loop-part-init
add_members-loop-part-init t c =
    let start = sym (at_start c.args.tree.now c.args.bytes.now c.args.n.0 _ c.parts-parts.ensures.kids) in
    record {
      fields = ap (λ x. c.args.out.now.fields.items ++ fields_in c.args.kind c.args.mods x) start;
      methods = ap (λ x. c.args.out.now.methods.items ++ methods_in c.args.mods x) start;
      below = c.parts-parts.ensures.below;
    }

pub add_members-loop-part-preserved : goal.add_members-loop-part-preserved
add_members-loop-part-preserved t c =
    let tree = c.args.tree.now in
    let b = c.args.bytes.now in
    let ps = c.parts-parts.result.now in
    let k = c.loop-part.part-index in
    let lt = c.loop-part-test.true in
    let inv = c.loop-part.invariant in
    let below = below_next (length tree.leaves) c.args.n.0 ps k inv.below lt in
    elim c.match-part.branch [
      | add_members-in-Leaf w ↦ record {
        fields = rw w.out-is (fields_leaf c.args.kind c.args.mods tree b ps k _ _ inv.fields _ _ lt w.in-Leaf.is);
        methods = rw w.out-is (methods_leaf c.args.mods tree b ps k _ _ inv.methods _ _ lt w.in-Leaf.is);
        below = below;
      }
      | add_members-in-Node+in_ok-add_node-in-Node w ↦ record {
        fields = rw w.out-is (fields_node c.args.kind c.args.mods tree b ps k _ _ inv.fields _ w.in-Node.m _ lt
            w.in-Node.is w.in_ok-add_node-in-Node.ensures.fields);
        methods = rw w.out-is (methods_node c.args.mods tree b ps k _ _ inv.methods _ w.in-Node.m _ lt
            w.in-Node.is w.in_ok-add_node-in-Node.ensures.methods);
        below = below;
      }
    ]

pub add_members-returns-clause-fields : goal.add_members-returns-clause-fields
add_members-returns-clause-fields t c =
    fields_end c.args.kind c.args.mods c.args.tree.now c.args.bytes.now c.parts-parts.result.now
    c.loop-part.part-index _ _ c.loop-part.invariant.fields c.loop-part-test.false

pub add_members-returns-clause-methods : goal.add_members-returns-clause-methods
add_members-returns-clause-methods t c =
    methods_end c.args.mods c.args.tree.now c.args.bytes.now c.parts-parts.result.now
    c.loop-part.part-index _ _ c.loop-part.invariant.methods c.loop-part-test.false
