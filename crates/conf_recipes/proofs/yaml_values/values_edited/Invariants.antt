use Rattle.std.proofs.Common.{◌≡◌, ◌++◌, drop}
use Rattle.std.specs.List.{flat_map}
use Rattle.yaml_tree.specs.Found.{found_in}
use Rattle.conf_recipes.specs.YamlLeaves.{entry_at, entries_found, value_edits}
use Rattle.conf_recipes.proofs.yaml_values.values_edited.Given as goal

abbrev pub invariant-loop-n : goal.invariant-loop-n
invariant-loop-n l = record {
  same : l.edits.items
      ++ flat_map (value_edits l.tree l.text) (flat_map (entry_at l.tree) (drop l.n-index l.n-items))
      ≡ flat_map (value_edits l.tree l.text) (entries_found l.bytes l.path l.tree);
  found : l.n-items ≡ found_in l.bytes l.path l.tree;
}
