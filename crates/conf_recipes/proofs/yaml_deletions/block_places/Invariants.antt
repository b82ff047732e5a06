use Rattle.std.proofs.Common.{◌≡◌, ◌++◌, drop}
use Rattle.conf_recipes.specs.YamlDeletions.{block_places}
use Rattle.conf_recipes.proofs.yaml_deletions.block_places.Given as goal

abbrev pub invariant-loop-part : goal.invariant-loop-part
invariant-loop-part l = l.places.items ++ block_places (drop l.part-index l.parts) ≡ block_places l.parts
