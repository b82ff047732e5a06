use Rattle.std.proofs.Common.{◌≡◌, sym, ap, subst, ◌∙◌}
use Rattle.std.specs.Prelude.{Err}
use Rattle.rw_grammar.specs.Faults.{IsSound}
use Rattle.rw_grammar.specs.Shapes.{all_parts}
use Rattle.yaml_tree.specs.Reading.{yaml_rules}
use Rattle.yaml_tree.proofs.Rows.{rows}
use Rattle.yaml_tree.proofs.Closed.{are_spelled, closed}
use Rattle.yaml_tree.proofs.reader.YamlReader.new.Goals as goal

pub invariant_of-result : goal.invariant_of-result
invariant_of-result c = c.in-Ok.ensures.rules ∙ (c.in_ok-shapes.ensures.parts ∙ are_spelled)

pub unreachable-requires : goal.unreachable-requires
unreachable-requires c =
    let number = c.in-Err-Wrong.field-0-0 in
    let rule = c.in-Err-Wrong.field-0-1 in
    let rules = all_parts c.in_ok-shapes.field-0 in
    let same : rules ≡ yaml_rules = c.in_ok-shapes.ensures.parts ∙ are_spelled in
    let sound : IsSound rules = subst IsSound (sym same) (c.closed_rows_show_a_sound_table.ensures rows yaml_rules
    closed) in
    let least = c.checked.ensures.wrong number rule (c.in-Err-Wrong.is ∙ ap Err c.in-Err-Wrong.field-0-is) in
    sound number rule least.there least.fault
