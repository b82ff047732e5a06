use Rattle.properties_tree.proofs.First.{entry_found}
use Rattle.properties_tree.proofs.reader.entry_sizes.Goals as goal

pub returns : goal.returns
returns c =
    entry_found c.args.text.now c.args.start c.requires c.separator_size-separator.result c.line_size-value.result c.ending_length-ending.result
    c.separator_size-separator.ensures.value c.separator_size-separator.ensures.inside
    c.line_size-value.ensures.value c.line_size-value.ensures.inside c.ending_length-ending.ensures.value c.ending_length-ending.ensures.inside
