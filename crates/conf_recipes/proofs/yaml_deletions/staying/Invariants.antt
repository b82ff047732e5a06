use Rattle.std.proofs.Common.{◌≡◌, ◌++◌, drop}
use Rattle.conf_recipes.specs.YamlDeletions.{staying, is_marked_in}
use Rattle.conf_recipes.proofs.yaml_deletions.staying.Given as goal

abbrev pub invariant-loop-place : goal.invariant-loop-place
invariant-loop-place l =
    l.stays.items ++ staying (is_marked_in l.gone) (drop l.place-index l.places) ≡ staying (is_marked_in l.gone) l.places
