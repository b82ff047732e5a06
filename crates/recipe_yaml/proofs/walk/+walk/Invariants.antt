use Rattle.std.proofs.Common.{◌≡◌, ℕ, ◌≤◌, ◌+◌, ◌*◌, false, drop}
use Rattle.recipe_yaml.specs.declared.walk.TheConstants.{MOST_ENTRIES}
use Rattle.recipe_yaml.specs.KeyPathTexts.{KeyPathsOf, AreKeyPaths}
use Rattle.recipe_yaml.specs.Walks.{entry, conditions, each}
use Rattle.recipe_yaml.proofs.walk.+walk.Given as goal

abbrev pub decreases-walk_entry : goal.decreases-walk_entry
decreases-walk_entry l = 4 * l.levels

abbrev pub decreases-walk_condition : goal.decreases-walk_condition
decreases-walk_condition l = 4 * l.levels + 1

abbrev pub decreases-walk_list : goal.decreases-walk_list
decreases-walk_list l = 4 * l.levels + 1

abbrev pub decreases-walk_conditions : goal.decreases-walk_conditions
decreases-walk_conditions l = 4 * l.levels + 2

abbrev pub decreases-walk_recipe : goal.decreases-walk_recipe
decreases-walk_recipe l = 4 * l.levels + 3

abbrev pub invariant-walk_conditions-loop-listed : goal.invariant-walk_conditions-loop-listed
invariant-walk_conditions-loop-listed l = record {
  few : l.walked.met ≤ MOST_ENTRIES;
  gone : (paths : KeyPathsOf) → AreKeyPaths paths
      → conditions (entry l.book paths l.levels l.around) l.positions.items (drop l.listed-index l.entries) l.walked
      ≡ conditions (entry l.book paths l.levels l.around) l.above l.entries l.fn.walked;
}

abbrev pub invariant-walk_list-loop-listed : goal.invariant-walk_list-loop-listed
invariant-walk_list-loop-listed l = record {
  few : l.walked.met ≤ MOST_ENTRIES;
  gone : (paths : KeyPathsOf) → AreKeyPaths paths
      → each (entry l.book paths l.levels l.around false l.above) (drop l.listed-index l.entries) l.walked
      ≡ each (entry l.book paths l.levels l.around false l.above) l.entries l.fn.walked;
}
