use Rattle.std.proofs.Common.{sym, ◌∙◌}
use Rattle.properties_tree.proofs.First.{passed_found, key_started}
use Rattle.properties_tree.proofs.starts.start_of.Goals as goal

pub returns-then-begins_no_entry : goal.returns-then-begins_no_entry
returns-then-begins_no_entry c =
    passed_found c.args.text.now c.requires c.text_length-end.result c.ending_length.result
    c.text_length-end.ensures.value c.text_length-end.ensures.inside c.ending_length.ensures.value c.ending_length.ensures.inside
    c.blanks_length-blanks.result c.blanks_length-blanks.ensures.value (sym c.begins_no_entry.ensures ∙ c.if-begins_no_entry.true)

pub returns : goal.returns
returns c =
    key_started c.args.text.now c.blanks_length-blanks.result c.key_size_behind-key.result c.plain_key_length-plain.result
    c.blanks_length-blanks.ensures.value c.blanks_length-blanks.ensures.inside (sym c.begins_no_entry.ensures ∙ c.if-begins_no_entry.false)
    c.key_size_behind-key.ensures.value c.key_size_behind-key.ensures.inside c.plain_key_length-plain.ensures.plain
