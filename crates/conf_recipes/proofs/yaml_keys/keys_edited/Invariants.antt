use Rattle.std.proofs.Common.{◌≡◌, ◌++◌, drop, map}
use Rattle.std.specs.List.{flat_map}
use Rattle.yaml_tree.specs.Found.{found_in}
use Rattle.conf_recipes.specs.YamlLeaves.{entry_at, entries_found, entry_key_edit}
use Rattle.conf_recipes.proofs.yaml_keys.keys_edited.Given as goal

abbrev pub invariant-loop-n : goal.invariant-loop-n
invariant-loop-n l = record {
  same : l.edits.items
      ++ map (entry_key_edit l.bytes l.tree l.plain l.new) (flat_map (entry_at l.tree) (drop l.n-index l.n-items))
      ≡ map (entry_key_edit l.bytes l.tree l.plain l.new) (entries_found l.bytes l.path l.tree);
  found : l.n-items ≡ found_in l.bytes l.path l.tree;
}
