use Rattle.rw_grammar.specs.StopLaws as stop_laws
use Rattle.rw_grammar.proofs.laws.a_rule_stops_at_one_leaf.Goals as goal

pub returns : goal.returns
returns c = stop_laws.a_rule_stops_at_one_leaf
