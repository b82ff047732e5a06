-- The table has no fault: its rows are closed under the rules, and its codes spell rules, as evaluation shows.
use Rattle.std.proofs.Common.{◌≡◌, true, refl}
use Rattle.rw_grammar.specs.Closed.{is_closed}
use Rattle.rw_grammar.specs.Codes.{spells_rules, parts_spelled}
use Rattle.java_reader.specs.declared.table.TheConstants.{JAVA}
use Rattle.java_reader.proofs.Rows.{rows}

pub spells : spells_rules JAVA ≡ true
spells = refl

pub closed : is_closed rows (parts_spelled JAVA) ≡ true
closed = refl
