use Rattle.std.proofs.Common.{◌+◌, ◌∙◌, sym, arith}
use Rattle.std.proofs.lemmas.List.{take_rest}
use Rattle.yaml_lex.proofs.Lines.{start, one-more, stops, further}
use Rattle.yaml_lex.proofs.block.lines_size.Goals as goal

pub lines-init : goal.lines-init
lines-init c = start c.args.least c.args.text.now c.requires

pub returns-then-not-belongs-clause-lines : goal.returns-then-not-belongs-clause-lines
returns-then-not-belongs-clause-lines c =
    stops c.args.least c.args.text.now _ _ c.lines.at c.blank_lines_size.result c.lines.invariant (take_rest c.args.text.now c.lines.at) c.blank_lines_size.ensures.lines
    (take_rest c.args.text.now (c.lines.at + c.blank_lines_size.result)) (sym c.belongs.ensures ∙ c.if-not-belongs.true)

pub lines-preserved : goal.lines-preserved
lines-preserved c =
    one-more c.args.least c.args.text.now _ _ c.lines.at c.blank_lines_size.result c.line_size.result c.lines.invariant (take_rest c.args.text.now c.lines.at) c.blank_lines_size.ensures.lines
    c.blank_lines_size.ensures.inside (take_rest c.args.text.now (c.lines.at + c.blank_lines_size.result)) (sym c.belongs.ensures ∙ c.if-not-belongs.false) c.line_size.ensures

pub lines-smaller : goal.lines-smaller
lines-smaller c =
    let grows = further c.args.least c.args.text.now _ _ c.lines.at c.blank_lines_size.result c.line_size.result (take_rest c.args.text.now c.lines.at) c.blank_lines_size.ensures.lines
    (take_rest c.args.text.now (c.lines.at + c.blank_lines_size.result)) (sym c.belongs.ensures ∙ c.if-not-belongs.false) in
    let after = lines-preserved c in
    omega (arith, grows, after.inside)
