use Rattle.std.proofs.Common.{◌∙◌, ap}
use Rattle.std.specs.Prelude.{Err}
use Rattle.rw_grammar.specs.Codes.{parts_spelled}
use Rattle.java_reader.specs.Reading.{java_rules}
use Rattle.java_reader.proofs.ReadTrees.{none_wrong}
use Rattle.java_reader.proofs.read.java_table.Goals as goal

pub unreachable-requires : goal.unreachable-requires
unfolding java_rules
unreachable-requires c =
    none_wrong _ java_rules (c.in_ok-shapes.ensures.parts ∙ ap parts_spelled c.java_codes.ensures)
    c.java_rules_are_sound.ensures _ _ (c.checked.ensures.wrong _ _ (c.in-Err-Wrong.is ∙ ap Err c.in-Err-Wrong.field-0-is))

pub returns-in-Ok : goal.returns-in-Ok
unfolding java_rules
returns-in-Ok c = c.in-Ok.ensures.rules ∙ (c.in_ok-shapes.ensures.parts ∙ ap parts_spelled c.java_codes.ensures)
