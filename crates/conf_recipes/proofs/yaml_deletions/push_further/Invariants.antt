use Rattle.std.proofs.Common.{◌≡◌, ◌++◌, drop}
use Rattle.std.specs.List.{flat_map}
use Rattle.conf_recipes.specs.YamlDeletions.{further_items}
use Rattle.conf_recipes.proofs.yaml_deletions.push_further.Given as goal

abbrev pub invariant-loop-place : goal.invariant-loop-place
invariant-loop-place l =
    l.items.items ++ flat_map further_items (drop l.place-index l.places)
    ≡ l.fn.items.items ++ flat_map further_items l.places
