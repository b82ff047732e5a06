use Rattle.std.proofs.Common.{◌≡◌, ◌+◌, ◌*◌, ◌++◌, length, drop}
use Rattle.rw_base.specs.Arena.{AreBelow}
use Rattle.rw_base.specs.Laid.{kids_of, forest_of}
use Rattle.conf_recipes.specs.YamlJoinedKeys.{joined_keys_in}
use Rattle.conf_recipes.proofs.yaml_joined_keys.+joined_keys.Given as goal

abbrev pub decreases-edit_parts : goal.decreases-edit_parts
decreases-edit_parts l = 6 * l.n.0

abbrev pub decreases-edit_part : goal.decreases-edit_part
decreases-edit_part l = 6 * l.m.0 + 5

abbrev pub decreases-edit_value : goal.decreases-edit_value
decreases-edit_value l = 6 * l.m.0 + 4

abbrev pub decreases-edit_entry : goal.decreases-edit_entry
decreases-edit_entry l = 6 * l.m.0 + 4

abbrev pub decreases-edit_key : goal.decreases-edit_key
decreases-edit_key l = 6 * l.m.0 + 3

abbrev pub decreases-edit_rests : goal.decreases-edit_rests
decreases-edit_rests l = 6 * l.m.0 + 2

abbrev pub invariant-edit_parts-loop-part : goal.invariant-edit_parts-loop-part
invariant-edit_parts-loop-part l = record {
  same : l.edits.items ++ joined_keys_in l.tree l.bytes (forest_of l.tree.nodes (drop l.part-index l.parts))
      l.in_mapping l.old l.new
      ≡ l.fn.edits.items ++ joined_keys_in l.tree l.bytes (kids_of l.tree.nodes l.n.0) l.in_mapping l.old l.new;
  below : AreBelow (length l.tree.leaves) l.n.0 (drop l.part-index l.parts);
}
