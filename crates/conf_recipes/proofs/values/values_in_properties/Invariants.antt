use Rattle.std.proofs.Common.{◌≡◌, ◌++◌, drop}
use Rattle.properties_tree.specs.Entries.{properties_of}
use Rattle.conf_recipes.specs.PropertiesRecipes.{all_value_edits, values_of}
use Rattle.conf_recipes.proofs.values.values_in_properties.Given as goal

abbrev pub invariant-loop-n : goal.invariant-loop-n
invariant-loop-n l = l.edits.items ++ all_value_edits l.options l.n (drop l.n (properties_of l.bytes).entries) ≡ values_of l.bytes l.options
