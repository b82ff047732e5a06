use Rattle.std.proofs.Common.{◌≡◌, ◌++◌, ◌-◌, length}
use Rattle.std.specs.List.{flat_map}
use Rattle.rw_base.specs.Trees.{numbers}
use Rattle.conf_recipes.specs.YamlDeletions.{node_edits, deletions, is_marked_in}
use Rattle.conf_recipes.proofs.yaml_deletions.deletions.Given as goal

abbrev pub invariant-loop-n : goal.invariant-loop-n
invariant-loop-n l =
    l.edits.items ++ flat_map (node_edits l.tree l.bytes (is_marked_in l.gone)) (numbers l.n (length l.tree.nodes - l.n))
    ≡ deletions l.tree l.bytes (is_marked_in l.gone)
