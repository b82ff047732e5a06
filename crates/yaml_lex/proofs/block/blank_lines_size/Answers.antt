use Rattle.std.proofs.Common.{◌≡◌, ◌+◌, length, false, ◌∙◌, ap, subst, arith}
use Rattle.std.proofs.lemmas.List.{take_rest, length-drop}
use Rattle.yaml_lex.specs.BlockScalars.{ending_size, is_blank_line}
use Rattle.yaml_lex.specs.Scanning.{IsBlankLine}
use Rattle.yaml_lex.proofs.Blanks.{start, one-more, stops, ends}
use Rattle.yaml_lex.proofs.block.blank_lines_size.Goals as goal

pub loop-at-init : goal.loop-at-init
loop-at-init c = start c.args.text.now c.requires

pub returns-clause-lines : goal.returns-clause-lines
returns-clause-lines c = ends c.args.text.now c.loop-at.at c.loop-at.invariant c.loop-at-test.false

pub returns-in-None-clause-lines : goal.returns-in-None-clause-lines
returns-in-None-clause-lines c =
    stops c.args.text.now c.loop-at.at c.ending_size.result c.loop-at.invariant c.loop-at-test.true
    (c.ending_size.ensures.value ∙ ap ending_size (take_rest c.args.text.now c.loop-at.at))
    (subst (λ t. is_blank_line t ≡ false) (take_rest c.args.text.now (c.loop-at.at + c.ending_size.result)) c.in-None.ensures)

pub loop-at-preserved : goal.loop-at-preserved
loop-at-preserved c =
    one-more c.args.text.now c.loop-at.at c.ending_size.result c.in-Some.size c.loop-at.invariant c.loop-at-test.true
    (c.ending_size.ensures.value ∙ ap ending_size (take_rest c.args.text.now c.loop-at.at))
    (omega (arith, ap length (take_rest c.args.text.now c.loop-at.at), length-drop c.loop-at.at c.args.text.now, c.ending_size.ensures.inside, c.loop-at-test.true))
    (subst (λ t. IsBlankLine t c.in-Some.size) (take_rest c.args.text.now (c.loop-at.at + c.ending_size.result)) c.in-Some.ensures)
