use Rattle.java_reader.specs.Reading.{java_rules}
use Rattle.java_reader.proofs.Rows.{rows}
use Rattle.java_reader.proofs.Closed.{closed}
use Rattle.java_reader.proofs.laws.java_rules_are_sound.Goals as goal

pub returns : goal.returns
unfolding java_rules
returns c = c.closed_rows_show_a_sound_table.ensures rows java_rules closed
