use Rattle.std.proofs.Common.{◌++◌, ◌∙◌, length}
use Rattle.rw_base.specs.Laid.{kids_of}
use Rattle.rw_base.specs.PartLaws.{below_next}
use Rattle.conf_recipes.specs.YamlJoinedKeys.{joined_keys_in}
use Rattle.conf_recipes.proofs.YamlJoinedKeys.{parts_end, parts_leaf, parts_node}
use Rattle.conf_recipes.proofs.yaml_joined_keys.+joined_keys.Goals as goal
use Rattle.conf_recipes.proofs.yaml_joined_keys.+joined_keys.Goals.{edit_parts-in-Leaf, edit_parts-in-Node+in_ok-edit_part-in-Node}

pub edit_parts-loop-part-preserved : goal.edit_parts-loop-part-preserved
edit_parts-loop-part-preserved m c =
    let t = c.args.tree.now in
    let bytes = c.args.bytes.now in
    let ps = c.parts-parts.result.now in
    let k = c.loop-part.part-index in
    let all = c.args.edits.now.items
    ++ joined_keys_in t bytes (kids_of t.nodes c.args.n.0) c.args.in_mapping c.args.old.now c.args.new.now in
    let below = below_next (length t.leaves) c.args.n.0 ps k c.loop-part.invariant.below c.loop-part-test.true in
    elim c.match-part.branch [
      | edit_parts-in-Leaf w ↦ record {
        same = rw w.edits-is (parts_leaf t bytes c.args.in_mapping c.args.old.now c.args.new.now ps all
            c.loop-part.edits.items k _ c.loop-part-test.true _ w.in-Leaf.is c.loop-part.invariant.same);
        below = below;
      }
      | edit_parts-in-Node+in_ok-edit_part-in-Node w ↦ record {
        same = rw w.edits-is (parts_node t bytes c.args.in_mapping c.args.old.now c.args.new.now ps all
            c.loop-part.edits.items k _ c.loop-part-test.true _ _ w.in-Node.is
            w.in_ok-edit_part-in-Node.ensures c.loop-part.invariant.same);
        below = below;
      }
    ]

pub edit_parts-returns : goal.edit_parts-returns
edit_parts-returns m c =
    let t = c.args.tree.now in
    let bytes = c.args.bytes.now in
    parts_end t bytes c.args.in_mapping c.args.old.now c.args.new.now c.parts-parts.result.now
    (c.args.edits.now.items
    ++ joined_keys_in t bytes (kids_of t.nodes c.args.n.0) c.args.in_mapping c.args.old.now c.args.new.now)
    c.loop-part.edits.items c.loop-part.part-index c.loop-part-test.false c.loop-part.invariant.same
