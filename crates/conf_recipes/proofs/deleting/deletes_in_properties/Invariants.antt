use Rattle.std.proofs.Common.{◌≡◌, ◌++◌, drop}
use Rattle.std.specs.Str.{bytes_eq}
use Rattle.properties_tree.specs.Entries.{properties_of}
use Rattle.conf_recipes.specs.PropertiesRecipes.{deletes, deletes_of}
use Rattle.conf_recipes.proofs.deleting.deletes_in_properties.Given as goal

abbrev pub invariant-loop-n : goal.invariant-loop-n
invariant-loop-n l = l.edits.items ++ deletes (λ key. bytes_eq key l.options.property_key) l.n (drop l.n (properties_of l.bytes).entries) ≡ deletes_of l.bytes l.options
