use Rattle.std.proofs.Common.{◌≡◌, ◌++◌, length, drop}
use Rattle.rw_base.specs.Arena.{AreBelow}
use Rattle.rw_grammar.specs.Results.{class_in}
use Rattle.conf_recipes.specs.YamlDeletions.{flow_places, no_place}
use Rattle.conf_recipes.proofs.yaml_deletions.flow_places.Given as goal

abbrev pub invariant-loop-part : goal.invariant-loop-part
invariant-loop-part l =
    let class = class_in l.tree.leaves in
    record {
      same : l.places.items ++ flow_places class l.place (drop l.part-index l.parts) ≡ flow_places class no_place l.parts;
      below : AreBelow (length l.tree.leaves) l.fn.n.0 (drop l.part-index l.parts);
    }
