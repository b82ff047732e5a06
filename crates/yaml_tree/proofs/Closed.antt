-- The table has no fault: its rows are closed under the rules, and its codes spell rules, as evaluation shows.
use Rattle.std.proofs.Common.{◌≡◌, true, length, refl}
use Rattle.rw_grammar.specs.Closed.{is_closed}
use Rattle.rw_grammar.specs.Codes.{spells_rules, parts_spelled}
use Rattle.yaml_tree.specs.declared.table.TheConstants.{YAML}
use Rattle.yaml_tree.specs.Reading.{yaml_rules}
use Rattle.yaml_tree.proofs.Rows.{rows}

pub spells : spells_rules YAML ≡ true
spells = refl

pub are_spelled : parts_spelled YAML ≡ yaml_rules
unfolding yaml_rules
are_spelled = refl

pub closed : is_closed rows yaml_rules ≡ true
unfolding yaml_rules
closed = refl

pub twelve : length yaml_rules ≡ 12
unfolding yaml_rules
twelve = refl
