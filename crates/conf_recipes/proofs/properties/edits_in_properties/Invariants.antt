use Rattle.std.proofs.Common.{◌≡◌, ◌++◌, drop}
use Rattle.properties_tree.specs.Entries.{properties_of}
use Rattle.conf_recipes.specs.PropertiesEdits.{key_edits, edits_of}
use Rattle.conf_recipes.proofs.properties.edits_in_properties.Given as goal

abbrev pub invariant-loop-n : goal.invariant-loop-n
invariant-loop-n l =
    l.edits.items ++ key_edits l.options.old_property_key l.options.new_property_key l.n (drop l.n (properties_of l.bytes).entries)
    ≡ edits_of l.bytes l.options
