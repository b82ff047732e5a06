use Rattle.rw_grammar.proofs.ClosedLaws.{closed_is_sound}
use Rattle.rw_grammar.proofs.laws.closed_rows_show_a_sound_table.Goals as goal

pub returns : goal.returns
returns c = closed_is_sound
