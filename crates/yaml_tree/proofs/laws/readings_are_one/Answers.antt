use Rattle.yaml_lex.specs.Leaves.{AreYamlLeaves}
use Rattle.rw_grammar.specs.ReadingLaws as reading_laws
use Rattle.yaml_tree.specs.declared.reader.TheConstants.{STREAM}
use Rattle.yaml_tree.specs.Reading.{yaml_rules}
use Rattle.yaml_tree.proofs.Rows.{rows}
use Rattle.yaml_tree.proofs.Closed.{closed}
use Rattle.yaml_tree.proofs.laws.readings_are_one.Goals as goal

pub returns : goal.returns
returns c bytes a b =
    reading_laws.readings_are_one (AreYamlLeaves bytes) (c.leaves_are_one.ensures bytes) yaml_rules
    (c.closed_rows_show_a_sound_table.ensures rows yaml_rules closed) STREAM bytes a b
