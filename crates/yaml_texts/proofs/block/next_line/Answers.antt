use Rattle.std.proofs.Common.{◌+◌, length, ap, arith}
use Rattle.std.proofs.lemmas.List.{take_rest, length-drop}
use Rattle.yaml_texts.proofs.FurtherLines.{next-line}
use Rattle.yaml_texts.proofs.block.next_line.Goals as goal

pub returns : goal.returns
returns c =
    let s = c.args.text.now in
    next-line s _ _ c.args.at c.ending_size.result c.line_size.result c.requires.some c.requires.ends (take_rest s c.args.at) c.ending_size.ensures.value
    (take_rest s (c.args.at + c.ending_size.result))
    (omega (arith, ap length (take_rest s c.args.at), length-drop c.args.at s, c.ending_size.ensures.inside, c.requires.some))
    c.line_size.ensures
